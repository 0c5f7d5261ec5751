-- Demand 2 (`rules` Demands) of the running call: of the answer r and the words `new` that `compile_schema` gives, whatever comes.
-- The contract of the call is the answer's definition; of that the rules crate has proved each part.
use Prim.Native.Nat.{ℕ, ◌*◌}
use mathlib.Core.Path.{◌≡◌, ap, ◌∙◌, subst, subst₂}
use mathlib.Core.Bool.{true}
use mathlib.Core.List.{List}
use lib.ListN.{length, take}
use Rattle.grammar.specs.Limits.{row_words}
use Rattle.rules.specs.declared.SchemaAnswer.{SchemaAnswer}
use Rattle.rules.specs.Sound.{sound}
use Rattle.rules.specs.SchemaAnswers.{SchemaOutcome}
use Rattle.rules.specs.Demands.{Demand2}
use Rattle.rules.specs.Serving.Answers.{SchemaResult}
use Rattle.rules.proofs.SchemaOutcome.{schema-outcome}
use Rattle.rules.proofs.AcceptedSound.{accepted-rows}
use Rattle.schema.specs.Stages.{Compiles}

pub demand_2 : {S old new : List ℕ} {r : SchemaAnswer} → Compiles S old new r → Demand2 S (length old) r new
demand_2 {S} {old} {new} {r} a =
    let p = ap (λ (x : SchemaResult). x.answer) a.told in
    let q = ap (λ (x : SchemaResult). x.words) a.told in
    record {
      outcome = subst₂ (λ (y : SchemaAnswer) (w : List ℕ). SchemaOutcome S (length old) y w) p q (schema-outcome S (length old));
      sound_rows = λ n e. subst (λ (w : List ℕ). sound S (take (row_words * n) w) ≡ true) q (accepted-rows S (length old) n (p ∙ e));
    }
