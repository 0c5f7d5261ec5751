-- Hashes: a name's, reckoned byte by byte, and that of what the node of a key or a string means.
use Prim.Native.Nat.{ℕ, ◌+◌, ◌≤◌, ◌<◌}
use native.Mathlib.Numerals.{add-one}
use mathlib.Core.Path.{◌≡◌, refl, sym, ap, ◌∙◌, subst₂}
use mathlib.Core.Bool.{Bool}
use mathlib.Core.List.{List}
use lib.ListN.{length, get_or, drop, drop_of_length-le}
use lib.Seq.{drop-cons}
use Rattle.grammar.specs.Serving.Machine.Message.{message}
use Rattle.strings.specs.Hashes.{hash_more, hash_from, hash_of, MeansHash}
use Rattle.text.specs.Nodes.{node_end, node_kind, node_start}
use Rattle.lookups.specs.Lookups.{plain_kind}
use Rattle.lookups.proofs.TokenLaws.{token}
use Rattle.children.specs.Lookup.{MeaningHash}

-- the bytes from place i on are left
pub record BytesLeft (name : List ℕ) (hash i : ℕ) : Type 0 where
  pub left : hash_of name ≡ hash_from hash (drop i name)

pub bytes-start : (name : List ℕ) → BytesLeft name 0 0
unfolding hash_of
bytes-start name = record { left = refl }

module _ {name : List ℕ} {hash i : ℕ} (v : BytesLeft name hash i) where
  pub bytes-more : i < length name → {b x : ℕ} → b ≡ get_or name i 0 → x ≡ hash_more hash b → BytesLeft name x (i + 1)
  bytes-more h q e = record { left = v.left ∙ rw (drop-cons name i 0 h, e, q, add-one i) }

  pub bytes-end : length name ≤ i → hash ≡ hash_of name
  bytes-end h = sym (v.left ∙ ap (hash_from hash) (drop_of_length-le name h))

module _ {m w : List ℕ} {k a e : ℕ} (pa : a ≡ node_start w k) (pe : e ≡ node_end w k) where
  pub token-hash : {kind x : ℕ} {plain : Bool} → kind ≡ node_kind w k → plain ≡ plain_kind kind → MeansHash message m a e plain x → MeaningHash m w k x
  token-hash {x = x} {plain} pk pp h = record {
    told = λ cs u. let t = token u in
        (subst₂ (λ (y z : ℕ). MeansHash message m y z plain x) pa pe h).told cs t.means (λ q. t.plain (sym (pp ∙ ap plain_kind pk) ∙ q));
  }
