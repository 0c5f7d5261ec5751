-- What specs/Calls says of each exported call, from the call's contract and nothing else.
-- The contract's equations give the answer of the inner call, of which demands 2 and 3 are proved; numbers and answers determine each other.
use Prim.Native.Nat.{ℕ}
use native.Mathlib.Omega.{arith}
use mathlib.Core.Path.{◌≡◌, refl, sym, ap, ap₂, ◌∙◌, subst}
use mathlib.Core.Bool.{Bool, false}
use mathlib.Core.List.{List}
use mathlib.Core.Logic.{⊎_elim}
use lib.ListN.{length, replicate}
use Rattle.rules.specs.declared.SchemaRefusal.{SchemaRefusal}
use Rattle.rules.specs.declared.SchemaRefusal.TheVariants as R
use Rattle.rules.specs.declared.SchemaAnswer.{SchemaAnswer}
use Rattle.rules.specs.declared.SchemaAnswer.TheVariants as SA
use Rattle.rules.specs.declared.MessageRefusal.{MessageRefusal}
use Rattle.rules.specs.declared.MessageRefusal.TheVariants as M
use Rattle.rules.specs.declared.MessageAnswer.{MessageAnswer}
use Rattle.rules.specs.declared.MessageAnswer.TheVariants.{Accepted, Refused}
use Rattle.rules.specs.Sound.{sound}
use Rattle.rules.specs.SchemaAnswers as Schemas
use Rattle.rules.specs.SchemaAnswers.{SchemaPlace, SchemaOutcome}
use Rattle.rules.specs.SchemaAnswers.SchemaOutcome.{accepted as schema-accept, refused as schema-refuse}
use Rattle.rules.specs.MessageAnswers as Messages
use Rattle.rules.specs.MessageAnswers.{MessageApplies, MessagePlace, MessageOutcome, message_order}
use Rattle.rules.specs.MessageAnswers.MessageOutcome.{accepted, refused}
use Rattle.rules.specs.Demands.{Demand2, Demand3}
use Rattle.rules.specs.Serving.Answers.{schema_result, message_result}
use Rattle.rules.proofs.Lowest.{schema-not-zero, message-not-zero, schema_number-only, message_number-only}
use Rattle.rules.proofs.EnoughRoom.{rows_suffice, records_suffice}
use Rattle.rules.proofs.Refusals.{first-has}
use Rattle.rules.proofs.SchemaOutcome.{schema-refused_at}
use Rattle.rules.proofs.MessageOutcome.{message-refused_at}
use Rattle.schema.proofs.Demand2.{demand_2}
use Rattle.message.proofs.Demand3.{demand_3}
use Rattle.gateway.specs.Serving.Outcomes.{Compiled, Checked}
use Rattle.gateway.specs.Calls.{CompileCall, CheckCall, SoundCall}

-- a number 0 is an acceptance's, and no other is
schema-accepted : (a : SchemaAnswer) → Schemas.answer_number a ≡ 0 → a ≡ SA.Accepted (Schemas.answer_rows a)
schema-accepted (SA.Accepted n) e = refl
schema-accepted (SA.Refused x p) e = absurd (omega (arith, schema-not-zero x))

message-accepted : (a : MessageAnswer) → Messages.answer_number a ≡ 0 → a ≡ Accepted (Messages.answer_row a) (Messages.answer_records a)
message-accepted (Accepted c n) e = refl
message-accepted (Refused x p) e = absurd (omega (arith, message-not-zero x))

-- a refusal's number is no other's
schema-refused : (a : SchemaAnswer) (x : SchemaRefusal) → Schemas.answer_number a ≡ Schemas.refusal_number x → a ≡ SA.Refused x (Schemas.answer_place a)
schema-refused (SA.Accepted n) x e = absurd (omega (arith, schema-not-zero x))
schema-refused (SA.Refused y p) x e = ap (λ (z : SchemaRefusal). SA.Refused z p) (schema_number-only y x e)

pub message-refused : (a : MessageAnswer) (x : MessageRefusal) → Messages.answer_number a ≡ Messages.refusal_number x → a ≡ Refused x (Messages.answer_place a)
message-refused (Accepted c n) x e = absurd (omega (arith, message-not-zero x))
message-refused (Refused y p) x e = ap (λ (z : MessageRefusal). Refused z p) (message_number-only y x e)

-- the compile call
module _ {S old new : List ℕ} {number rows place : ℕ} (h : Compiled S old new number rows place) where
  compiled_demand : Demand2 S (length old) (schema_result S (length old)).answer new
  compiled_demand = demand_2 {old = old} (record { told = ap (λ (w : List ℕ). record { answer = (schema_result S (length old)).answer; words = w }) (sym h.words_are) })

  pub compile_call : CompileCall S old new number rows place
  compile_call = record {
    answer = (schema_result S (length old)).answer;
    outcome = compiled_demand.outcome;
    number_is = h.number_is;
    rows_are = h.rows_are;
    place_is = h.place_is;
    sound_rows = λ e. compiled_demand.sound_rows rows (schema-accepted _ (sym h.number_is ∙ e) ∙ ap SA.Accepted (sym h.rows_are));
    zero = λ n. go (schema_result S (length old)).answer h.number_is h.rows_are compiled_demand.outcome n;
    no_place = λ e. h.place_is ∙ ap Schemas.answer_place (schema-accepted (schema_result S (length old)).answer (sym h.number_is ∙ e));
    placed = λ x e. subst (λ (i : ℕ). SchemaPlace x S i) (sym h.place_is) (schema-refused_at S (length old) (schema-refused _ x (sym h.number_is ∙ e)));
    enough = λ room e. (rows_suffice S).enough room compiled_demand.outcome _ (schema-refused _ R.NoRoom (sym h.number_is ∙ e));
  }
    where
      go : (a : SchemaAnswer) → number ≡ Schemas.answer_number a → rows ≡ Schemas.answer_rows a → SchemaOutcome S (length old) a new → (number ≡ 0 → ⊥) → (rows ≡ 0) × (new ≡ replicate (length old) 0)
      go a p q (schema-accept s u e w) n = absurd (n (p ∙ ap Schemas.answer_number e))
      go a p q (schema-refuse f l e w) n = (q ∙ ap Schemas.answer_rows e, w)

-- the check call
module _ {S T m old new : List ℕ} {number row records place : ℕ} (h : Checked S T m old new number row records place) where
  checked_demand : Demand3 S T m (length old) (message_result S T m (length old)).answer new
  checked_demand = demand_3 {old = old} (record { told = ap (λ (w : List ℕ). record { answer = (message_result S T m (length old)).answer; words = w }) (sym h.words_are) })

  -- what is accepted in numbers is in the answer
  is-accepted : number ≡ 0 → (message_result S T m (length old)).answer ≡ Accepted row records
  is-accepted e = message-accepted _ (sym h.number_is ∙ e) ∙ sym (ap₂ Accepted h.row_is h.records_are)

  pub check_call : CheckCall S T m old new number row records place
  check_call = record {
    answer = (message_result S T m (length old)).answer;
    outcome = checked_demand.outcome;
    number_is = h.number_is;
    row_is = h.row_is;
    records_are = h.records_are;
    place_is = h.place_is;
    accepts = λ a ts r k. let e = checked_demand.accepts a ts r k in (h.number_is ∙ ap Messages.answer_number e, h.row_is ∙ ap Messages.answer_row e, h.records_are ∙ ap Messages.answer_records e);
    gives = λ e. checked_demand.gives row records (is-accepted e);
    only_one = checked_demand.only_one;
    digits_apart = λ e x i. checked_demand.digits_apart row records (is-accepted e) x i;
    zero = λ n. go (message_result S T m (length old)).answer h.number_is h.row_is h.records_are checked_demand.outcome n;
    no_place = λ e. h.place_is ∙ ap Messages.answer_place (is-accepted e);
    placed = λ x e. subst (λ (i : ℕ). MessagePlace x S T m i) (sym h.place_is) (message-refused_at S T m (length old) (message-refused _ x (sym h.number_is ∙ e)));
    enough = λ room e. (records_suffice S T m).enough room checked_demand.outcome _ (message-refused _ M.NoRoom (sym h.number_is ∙ e));
  }
    where
      go : (a : MessageAnswer) → number ≡ Messages.answer_number a → row ≡ Messages.answer_row a → records ≡ Messages.answer_records a → MessageOutcome S T m (length old) a new
          → (number ≡ 0 → ⊥) → (row ≡ 0) × (records ≡ 0) × (new ≡ replicate (length old) 0)
      go a p q r (accepted i g k e w) n = absurd (n (p ∙ ap Messages.answer_number e))
      go a p q r (refused f l e w) n = (q ∙ ap Messages.answer_row e, r ∙ ap Messages.answer_records e, w)

-- the call that judges a table alone
module _ {S T : List ℕ} {answer : Bool} (h : answer ≡ sound S T) where
  pub sound-call : SoundCall S T answer
  sound-call = record { is = h; unsound = λ c e. refuses c.outcome c.number_is (sym h ∙ e); only_unsound = λ c e. h ∙ judges c.outcome c.number_is e }
    where
      refuses : {m new : List ℕ} {room number : ℕ} {a : MessageAnswer} → MessageOutcome S T m room a new → number ≡ Messages.answer_number a → sound S T ≡ false
          → number ≡ Messages.refusal_number M.UnsoundTable
      refuses (accepted i g k e w) p s = absurd (k M.UnsoundTable s)
      refuses (refused f l e w) p s = ⊎_elim (λ x. p ∙ ap Messages.answer_number e ∙ ap Messages.refusal_number (sym x.0)) (λ x. absurd (x.0 s)) f

      judges : {m new : List ℕ} {room number : ℕ} {a : MessageAnswer} → MessageOutcome S T m room a new → number ≡ Messages.answer_number a
          → number ≡ Messages.refusal_number M.UnsoundTable → sound S T ≡ false
      judges (accepted i g k e w) p s = let z : ◌≡◌ {A = ℕ} 0 21 = sym (p ∙ ap Messages.answer_number e) ∙ s in absurd (omega arith)
      judges {m} {room = room} (refused {x = x} f l e w) p s =
          let u = message_number-only x M.UnsoundTable (sym (p ∙ ap Messages.answer_number e) ∙ s) in
          subst (λ (y : MessageRefusal). MessageApplies y S T m room) u (first-has (λ y. MessageApplies y S T m room) message_order f)
