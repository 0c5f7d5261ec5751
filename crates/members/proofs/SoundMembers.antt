-- In a sound table every struct has its members: each chain of bases ends.
-- By rule 8, read off row by row.
use Prim.Native.Nat.{ℕ, zero, suc}
use mathlib.Core.Path.{◌≡◌, refl}
use mathlib.Core.Bool.{true}
use mathlib.Core.List.{List, []}
use mathlib.Core.Option.{some}
use Rattle.grammar.specs.Limits.{chain_structs}
use Rattle.rules.specs.Kinds.{struct_kind}
use Rattle.rules.specs.Rows.{kind, members}
use Rattle.rules.specs.Sound.{sound}
use Rattle.rules.proofs.Chains.{chain-within, members_of_chain}
use Rattle.rules.proofs.SoundFacts.{StructLink, sound-facts}
use Rattle.members.proofs.MemberLaws.{members-zero}

-- the members of the struct with a link
pub record Has (T : List ℕ) (l : ℕ) : Type 0 where
  pub rows : List ℕ
  pub are : members T chain_structs l ≡ some rows

module _ (S T : List ℕ) (h : sound S T ≡ true) where
  pub struct-has : (r : ℕ) → kind T r ≡ struct_kind → Has T (suc r)
  struct-has r k =
      let c = chain-within T S r ((sound-facts S T h).chain_good r k) in
      let m = members_of_chain T chain_structs (suc r) c.structs c.chain c.few in
      record { rows = m.0; are = m.1 }

  pub link-has : (l : ℕ) → StructLink T l → Has T l
  link-has zero f = record { rows = []; are = members-zero T chain_structs }
  link-has (suc r) f = struct-has r (f r refl)
