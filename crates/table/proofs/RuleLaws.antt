-- A table keeps a rule if each row of the kind that it is on does; by the rule, each by its definition.
use Prim.Native.Nat.{ℕ}
use mathlib.Core.Path.{◌≡◌, refl, sym, ap, ◌∙◌}
use mathlib.Core.List.{List}
use Rattle.rules.specs.Rows.{row_count}
use Rattle.rules.specs.Rules.{every_row, good_chains, good_unions, good_alternates, good_returns}
use Rattle.rows.proofs.LoopLaws.{of_kind, KindLeft, kind-starts}
use Rattle.table.specs.declared.rule.Rule.{Rule}
use Rattle.table.specs.declared.rule.Rule.TheVariants.{Chains, Unions, Alternates, Returns}
use Rattle.table.specs.Kept.{ruled_kind, fits_rule, keeps_rule}

kept-by-rows : (rule : Rule) (S T : List ℕ) → keeps_rule rule S T ≡ every_row T (of_kind T (ruled_kind rule) (fits_rule rule S T))
unfolding good_chains good_unions good_alternates good_returns
kept-by-rows Chains S T = refl
kept-by-rows Unions S T = refl
kept-by-rows Alternates S T = refl
kept-by-rows Returns S T = refl

-- all rows are left to look at; k is the kind that the rule is on
pub rule_starts : (rule : Rule) (S T : List ℕ) {k : ℕ} → k ≡ ruled_kind rule → KindLeft (keeps_rule rule S T) T k (fits_rule rule S T) 0 (row_count T)
rule_starts rule S T {k} e = kind-starts T k (fits_rule rule S T) (kept-by-rows rule S T ∙ ap (λ (m : ℕ). every_row T (of_kind T m (fits_rule rule S T))) (sym e))
