-- Laws of hashes: names that clash have one hash, so names of different hashes do not clash; hashes of rows are written one after the other.
use Prim.Native.Nat.{ℕ, ◌+◌, ◌-◌, ◌≤◌, ◌<◌, ◌^◌}
use Prim.Native.Char.{code}
use mathlib.Core.Path.{◌≡◌, refl, sym, ap, ◌∙◌}
use mathlib.Core.Bool.{Bool, true, false}
use mathlib.Core.List.{List}
use native.Mathlib.Omega.{arith}
use lib.ListN.{length, get_or, take, drop, length-take, get_or-eq_default}
use lib.Seq.{get_or-take, get_or-drop}
use lib.Dec.{eqb, ltb}
use borrow.Author.Tests.{ltb-true, ltb-false}
use Rattle.grammar.proofs.Booleans.{by}
use Rattle.grammar.proofs.Lists.{same_true, different}
use Rattle.grammar.specs.Notation.{apart}
use Rattle.rules.specs.Names.{same_name, c_byte, c_name, clash}
use Rattle.rules.specs.Rows.{start, size, name_of}
use Rattle.rules.specs.Rules.{names_of}
use Rattle.rows.specs.Hashes.{ends, hash_of, Hashes, Other}
use Rattle.rows.proofs.NameFacts.{c_byte_lem}
use Rattle.rules.proofs.First.{decided}

-- names that clash have one hash
pub clash-hash : (x y : List ℕ) → clash x y ≡ true → hash_of x ≡ hash_of y
unfolding clash hash_of
clash-hash x y e = ap ends (same_true (c_name x) (c_name y) e)

-- of bytes a hash is below 2 ^ 31
c_small : (b : ℕ) → b < 256 → c_byte b < 256
c_small b h = by (λ n. n < 256) (eqb b (code "-")) (λ _. omega arith) (λ _. h)

abbrev Bytes : List ℕ → Type 0
Bytes x = (i : ℕ) → get_or x i 0 < 256

hash-small : (x : List ℕ) → Bytes x → hash_of x < 2 ^ 31
unfolding hash_of
hash-small x h =
    let at : (i : ℕ) → get_or (c_name x) i 0 < 256 = λ i. rw (c_byte_lem x i) (c_small (get_or x i 0) (h i)) in
    let n = length (c_name x) in
    omega (arith, at (n - n), at (n - 1), at (n - 2), at (n - 3))

take-bytes : (n : ℕ) (x : List ℕ) → Bytes x → Bytes (take n x)
take-bytes n x h i = go (ltb i n) refl
  where
    go : (b : Bool) → ltb i n ≡ b → get_or (take n x) i 0 < 256
    go true e = rw (get_or-take n x i 0 (ltb-true i n e)) (h i)
    go false e = let f : length (take n x) ≤ i = simp length-take (omega (arith, ltb-false i n e)) in rw (get_or-eq_default (take n x) 0 {n = i} f) (omega arith)

name_bytes : (S T : List ℕ) (r : ℕ) → Bytes S → Bytes (name_of S T r)
unfolding name_of
name_bytes S T r h = take-bytes (size T r) (drop (start T r) S) (λ i. rw (get_or-drop (start T r) S i 0) (h (start T r + i)))

pub hashes_small : {S T M : List ℕ} → Bytes S → Hashes S T M → (r : ℕ) → r < length M → get_or M r 0 < 2 ^ 31
hashes_small {S} {T} h k r l = rw (k.told r l) (hash-small (name_of S T r) (name_bytes S T r h))

-- a row of another hash has another name, and one that does not clash
module _ {S T M : List ℕ} {r m : ℕ} {b : Bool} (x : List ℕ) (k : Hashes S T M) (o : Other M r m b) (t : b ≡ true) (e : m ≡ hash_of x) where
  other-hash : hash_of x ≡ hash_of (name_of S T r) → ⊥
  other-hash q = (o.told t).1 (k.told r (o.told t).0 ∙ sym q ∙ sym e)

  pub other_name : false ≡ same_name x (name_of S T r)
  other_name = sym (different x (name_of S T r) (λ q. other-hash (ap hash_of q)))

  pub no_clash_lem : false ≡ clash x (name_of S T r)
  no_clash_lem = sym (decided (clash x (name_of S T r)) (λ q. other-hash (clash-hash x (name_of S T r) q)))

-- the hashes of the rows below r are written
pub record HashesTo (S T M : List ℕ) (n r : ℕ) : Type 0 where
  pub room : length M ≡ n
  pub below : (i : ℕ) → i < r → get_or M i 0 ≡ hash_of (name_of S T i)

-- the names of rows are apart
abbrev pub names_apart : List ℕ → List ℕ → List ℕ → Bool
names_apart S T rs = apart clash (names_of S T rs)
