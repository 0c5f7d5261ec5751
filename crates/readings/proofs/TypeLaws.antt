-- By which type a value is read: the type itself, or the first alternative of the value's kind.
use Prim.Native.Nat.{ℕ, ◌-◌, ◌<◌, ◌≤◌}
use mathlib.Core.Path.{◌≡◌, ap, ◌∙◌}
use mathlib.Core.Bool.{true, false}
use mathlib.Core.List.{List, ◌∷◌}
use mathlib.Core.Option.{Option, none, some}
use borrow.Author.Tests.{ne_eqb, le-leb, lt-leb}
use Rattle.grammar.specs.Tree.{Kind, kind_of}
use Rattle.rules.specs.Kinds.{alternate_kind}
use Rattle.rules.specs.Types.{first_row, same_kind}
use Rattle.rules.specs.Rows.{kind, type_ref, children, type_kind}
use Rattle.rules.specs.Rules.{is}
use Rattle.rules.specs.Serving.ReadingOf.{of_kind, from_alternatives, type_choice}
use Rattle.text.specs.Nodes.{node_kind}
use Rattle.readings.specs.Parts.{kind_of_node, choice_as, TypeFor}
use Rattle.readings.specs.declared.types.Choice.{Choice}
use Rattle.readings.specs.declared.types.Choice.TheVariants.{Itself}
use Rattle.readings.proofs.KindLaws.{node_kind-is, kind_at}

-- of the alternatives left, the first of the kind k
module _ (T : List ℕ) (k : Kind) {i : ℕ} {rest rs : List ℕ} (h : rest ≡ i ∷ rs) {t : ℕ} (p : t ≡ type_ref T i) {o : Option Kind} (q : o ≡ type_kind T t) where
  pub alternatives_hit : is o (λ j. same_kind j k) ≡ true → of_kind T k rest ≡ some t
  alternatives_hit e = rw (h, ← p, ← q, e)

  pub alternatives_on : is o (λ j. same_kind j k) ≡ false → of_kind T k rest ≡ of_kind T k rs
  alternatives_on e = rw (h, ← p, ← q, e)

-- the type for a value at a node
module _ (T w : List ℕ) {k t f : ℕ} where
  pub direct_array : (f ≡ 0 → ⊥) → TypeFor T w k t f Itself
  unfolding type_choice
  direct_array n = record { told = λ S m j l h. rw (ne_eqb f 0 n) }

  module _ (z : f ≡ 0) where
    pub direct_below : t < first_row → TypeFor T w k t f Itself
    unfolding type_choice
    direct_below l = record { told = λ S m j x h. rw (z, lt-leb first_row t l) }

    module _ (l : first_row ≤ t) {r y : ℕ} (p : r ≡ t - first_row) (q : y ≡ kind T r) where
      pub direct_other : (y ≡ alternate_kind → ⊥) → TypeFor T w k t f Itself
      unfolding type_choice
      direct_other n = record { told = λ S m j x h. rw (z, le-leb first_row t l, ← p, ← q, ne_eqb y alternate_kind n) }

      module _ (e : y ≡ alternate_kind) {d : ℕ} (v : d ≡ node_kind w k) where
        pub by-alternative : {c : Kind} {x : Choice} → some c ≡ kind_of_node d → choice_as x ≡ from_alternatives (of_kind T c (children T r)) → TypeFor T w k t f x
        unfolding type_choice
        by-alternative u g = record { told = λ S m j i h. g ∙ rw (kind_at m w k u v j i h, z, le-leb first_row t l, ← p, ← q, e) }

        pub kindless : none ≡ kind_of_node d → {x : Choice} → TypeFor T w k t f x
        kindless u = record { told = λ S m j i h. let n : none ≡ some (kind_of j) = u ∙ ap kind_of_node v ∙ node_kind-is m w j i k h in cc }
