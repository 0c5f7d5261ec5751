-- Serves contracts: discriminators become links to members, found by a walk up the chain of bases.
use Rattle.std.specs.Prelude.{ℕ, zero, suc, ◌*◌, ◌+◌, ◌^◌, cond, List, eqb, ltb, get_or, set}
use Rattle.grammar.specs.Limits.{chain_structs, row_words}
use Rattle.rules.specs.Kinds.{union_kind}
use Rattle.rules.specs.Rows.{kind, base, children, members, union_base}
use Rattle.rules.specs.SchemaTable.{member_in, member_in_chain}
use Rattle.references.specs.NamedWords.{discriminator_word}
use Rattle.references.specs.Lookups.{name_in}

-- a link, or the other one where it is none
abbrev pub or_else : ℕ → ℕ → ℕ
or_else zero b = b
or_else (suc a) b = suc a

-- the link of the member of that name of the struct with a link, inherited ones first, at most n structs up
unfoldable pub member_link : List ℕ → List ℕ → ℕ → ℕ → List ℕ → ℕ
member_link S T zero zero x = 0
member_link S T zero (suc r) x = 0
member_link S T (suc n) zero x = 0
member_link S T (suc n) (suc r) x = or_else (member_link S T n (base T r) x) (member_in S T x (children T r))

-- a link that a word holds
abbrev pub narrow : ℕ → ℕ
narrow l = cond (ltb l (2 ^ 32)) l 0

module _ (S : List ℕ) where
  -- the link of the discriminator of union r, which a word names
  unfoldable pub discriminator_found : ℕ → List ℕ → ℕ
  discriminator_found r U = narrow (member_in_chain S U (name_in S (get_or U (row_words * r + discriminator_word) 0)) (members U chain_structs (union_base U r)))

  unfoldable pub put_discriminator : ℕ → List ℕ → List ℕ
  put_discriminator r U = cond (eqb (kind U r) union_kind) (set U (row_words * r + discriminator_word) (discriminator_found r U)) U

  -- the rows of U below row r
  unfoldable pub put_discriminators : ℕ → List ℕ → List ℕ
  put_discriminators zero U = U
  put_discriminators (suc r) U = put_discriminator r (put_discriminators r U)
