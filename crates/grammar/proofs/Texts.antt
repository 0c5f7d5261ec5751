-- Schema text and message text: the grammar and the machine agree, a text has one tree, and the three answers of the machine mean valid, Broken and TooDeep.
-- The general laws, at each dialect and its levels. These are the statements to cite.
use Prim.Native.Nat.{ℕ}
use native.Mathlib.Omega.{arith}
use mathlib.Core.Logic.{◌↔◌, ◌⊎◌, inl, inr}
use mathlib.Core.Path.{◌≡◌, refl, sym, ◌∙◌}
use mathlib.Core.List.{List}
use lib.ListN.{get_or}
use Rattle.grammar.specs.Limits.{schema_levels, message_levels}
use Rattle.grammar.specs.Tree.{Json, Items, Items.no_items, Items.item}
use Rattle.grammar.specs.Grammar.{Text, Text.objects, Text.one_value}
use Rattle.grammar.specs.SchemaText.{SchemaText, schema_lexis}
use Rattle.grammar.specs.MessageText.{MessageText, message_lexis}
use Rattle.grammar.specs.Starts.{Opening, TooDeep}
use Rattle.grammar.specs.Serving.Faults.{Broken}
use Rattle.grammar.specs.Serving.Machine.{Out, Out.whole, Out.fault, Out.deep, read}
use Rattle.grammar.specs.Serving.Machine.Schema.{schema, read_schema}
use Rattle.grammar.specs.Serving.Machine.Message.{message, read_message}
use Rattle.grammar.proofs.Booleans.{clash}
use Rattle.grammar.proofs.Sound.{sound}
use Rattle.grammar.proofs.Complete.{complete, unique}
use Rattle.grammar.proofs.Starts.{valid_not_deep, broken_not_deep}
use Rattle.grammar.proofs.Answers.{fault_broken, deep-too_deep, broken_fault, too_deep-deep, too_deep-opening, one_of_three}
use Rattle.grammar.proofs.SchemaDialect.{schema-tokens-sound, schema-tokens-complete, schema-tokens_completable}
use Rattle.grammar.proofs.MessageDialect.{message-tokens-sound, message-tokens-complete, message-tokens_completable}

-- Schemas
schema-read : (l : List ℕ) → read_schema l ≡ read schema schema_levels l
unfolding read_schema
schema-read l = refl

module _ {l : List ℕ} where
  pub schema-sound : {js : Items} → read_schema l ≡ whole js → SchemaText l js
  schema-sound {js} h = sound schema schema-tokens-sound schema_levels js l (sym (schema-read l) ∙ h)

  pub schema-complete : {js : Items} → SchemaText l js → read_schema l ≡ whole js
  schema-complete t = schema-read l ∙ complete schema schema-tokens-complete schema_levels t

  pub schema_unique : {js ks : Items} → SchemaText l js → SchemaText l ks → js ≡ ks
  schema_unique t u = unique schema schema-tokens-complete schema_levels t u

  pub schema-fault : {e : ℕ} → read_schema l ≡ fault e → Broken schema_lexis schema_levels l e
  schema-fault {e} h = fault_broken schema schema-tokens-sound schema-tokens-complete schema-tokens_completable schema_levels l e (sym (schema-read l) ∙ h)

  pub schema-deep : {e : ℕ} → read_schema l ≡ deep e → TooDeep schema_lexis schema_levels l e
  schema-deep {e} h = deep-too_deep schema schema-tokens-sound schema-tokens-complete schema-tokens_completable schema_levels l e (sym (schema-read l) ∙ h)

  pub schema_broken : {e : ℕ} → Broken schema_lexis schema_levels l e → read_schema l ≡ fault e
  schema_broken {e} b = schema-read l ∙ broken_fault schema schema-tokens-sound schema-tokens-complete schema-tokens_completable schema_levels l e b

  pub schema-too_deep : {e : ℕ} → TooDeep schema_lexis schema_levels l e → read_schema l ≡ deep e
  schema-too_deep {e} t = schema-read l ∙ too_deep-deep schema schema-tokens-sound schema-tokens-complete schema-tokens_completable schema_levels l e t

  pub schema_bracket : {e : ℕ} → TooDeep schema_lexis schema_levels l e → Opening (get_or l e 0)
  schema_bracket {e} t = too_deep-opening schema schema-tokens-sound schema-tokens-complete schema-tokens_completable schema_levels l e t

  -- the three shut one another out (that a Broken text is not valid is a field of Broken)
  pub schema_valid_or_deep : {js : Items} {e : ℕ} → SchemaText l js → TooDeep schema_lexis schema_levels l e → ⊥
  schema_valid_or_deep {js} t d = valid_not_deep schema_lexis d (js, t)

  pub schema_broken_or_deep : {e f : ℕ} → Broken schema_lexis schema_levels l e → TooDeep schema_lexis schema_levels l f → ⊥
  schema_broken_or_deep b d = broken_not_deep schema_lexis b d

-- what the reader of schemas answers, and what it says of the text: each exactly when the other
pub schema_text_lem : (l : List ℕ) (js : Items) → (read_schema l ≡ whole js) ↔ SchemaText l js
schema_text_lem l js = (λ h. schema-sound h, λ t. schema-complete t)

pub schema_faulty : (l : List ℕ) (e : ℕ) → (read_schema l ≡ fault e) ↔ Broken schema_lexis schema_levels l e
schema_faulty l e = (λ h. schema-fault h, λ b. schema_broken b)

pub schema-deeper : (l : List ℕ) (e : ℕ) → (read_schema l ≡ deep e) ↔ TooDeep schema_lexis schema_levels l e
schema-deeper l e = (λ h. schema-deep h, λ t. schema-too_deep t)

-- and nothing is left over
pub schema_answer : (l : List ℕ) → ((js : Items) × SchemaText l js) ⊎ (((e : ℕ) × Broken schema_lexis schema_levels l e) ⊎ ((e : ℕ) × TooDeep schema_lexis schema_levels l e))
schema_answer l = one_of_three schema schema-tokens-sound schema-tokens-complete schema-tokens_completable schema_levels l

-- Reference, Schema answers 2: not schema text
pub schema-refused : (l : List ℕ) → ((js : Items) → SchemaText l js → ⊥) ↔ (((e : ℕ) × (read_schema l ≡ fault e)) ⊎ ((e : ℕ) × (read_schema l ≡ deep e)))
schema-refused l = (λ n. go n (read_schema l) refl, λ r js t. shut (schema-complete t) r)
  where
    go : ((js : Items) → SchemaText l js → ⊥) → (o : Out) → read_schema l ≡ o → ((e : ℕ) × (read_schema l ≡ fault e)) ⊎ ((e : ℕ) × (read_schema l ≡ deep e))
    go n (whole js) h = absurd (n js (schema-sound h))
    go n (fault e) h = inl (e, h)
    go n (deep e) h = inr (e, h)

    shut : {js : Items} → read_schema l ≡ whole js → ((e : ℕ) × (read_schema l ≡ fault e)) ⊎ ((e : ℕ) × (read_schema l ≡ deep e)) → ⊥
    shut h (inl z) = let k = z.1 in let n : ◌≡◌ {A = ℕ} 0 1 = cc in omega arith
    shut h (inr z) = let k = z.1 in let n : ◌≡◌ {A = ℕ} 0 1 = cc in omega arith

-- Messages
pub message-read : (l : List ℕ) → read_message l ≡ read message message_levels l
unfolding read_message
message-read l = refl

module _ {l : List ℕ} where
  -- a message has one value
  pub message-item : {js : Items} → read_message l ≡ whole js → (j : Json) × (js ≡ item j no_items) × MessageText l j
  message-item {js} h = go (sound message message-tokens-sound message_levels js l (sym (message-read l) ∙ h))
    where
      go : {ks : Items} → Text message_lexis message_levels l ks → (j : Json) × (ks ≡ item j no_items) × MessageText l j
      go (objects t e) = clash t refl
      go (one_value {j = j} t w v u) = (j, refl, one_value t w v u)

  pub message-sound : {j : Json} → read_message l ≡ whole (item j no_items) → MessageText l j
  message-sound {j} h = sound message message-tokens-sound message_levels (item j no_items) l (sym (message-read l) ∙ h)

  pub message-complete : {j : Json} → MessageText l j → read_message l ≡ whole (item j no_items)
  message-complete t = message-read l ∙ complete message message-tokens-complete message_levels t

  pub message_unique : {j k : Json} → MessageText l j → MessageText l k → j ≡ k
  message_unique t u = let e = unique message message-tokens-complete message_levels t u in cc

  pub message-fault : {e : ℕ} → read_message l ≡ fault e → Broken message_lexis message_levels l e
  message-fault {e} h = fault_broken message message-tokens-sound message-tokens-complete message-tokens_completable message_levels l e (sym (message-read l) ∙ h)

  pub message-deep : {e : ℕ} → read_message l ≡ deep e → TooDeep message_lexis message_levels l e
  message-deep {e} h = deep-too_deep message message-tokens-sound message-tokens-complete message-tokens_completable message_levels l e (sym (message-read l) ∙ h)

  pub message_broken : {e : ℕ} → Broken message_lexis message_levels l e → read_message l ≡ fault e
  message_broken {e} b = message-read l ∙ broken_fault message message-tokens-sound message-tokens-complete message-tokens_completable message_levels l e b

  pub message-too_deep : {e : ℕ} → TooDeep message_lexis message_levels l e → read_message l ≡ deep e
  message-too_deep {e} t = message-read l ∙ too_deep-deep message message-tokens-sound message-tokens-complete message-tokens_completable message_levels l e t

  pub message_bracket : {e : ℕ} → TooDeep message_lexis message_levels l e → Opening (get_or l e 0)
  message_bracket {e} t = too_deep-opening message message-tokens-sound message-tokens-complete message-tokens_completable message_levels l e t

  -- the three shut one another out (that a Broken text is not valid is a field of Broken)
  pub message_valid_or_deep : {j : Json} {e : ℕ} → MessageText l j → TooDeep message_lexis message_levels l e → ⊥
  message_valid_or_deep {j} t d = valid_not_deep message_lexis d (item j no_items, t)

  pub message_broken_or_deep : {e f : ℕ} → Broken message_lexis message_levels l e → TooDeep message_lexis message_levels l f → ⊥
  message_broken_or_deep b d = broken_not_deep message_lexis b d

-- what the reader of messages answers, and what it says of the text: each exactly when the other
pub message-text : (l : List ℕ) (j : Json) → (read_message l ≡ whole (item j no_items)) ↔ MessageText l j
message-text l j = (λ h. message-sound h, λ t. message-complete t)

pub message_faulty : (l : List ℕ) (e : ℕ) → (read_message l ≡ fault e) ↔ Broken message_lexis message_levels l e
message_faulty l e = (λ h. message-fault h, λ b. message_broken b)

pub message-deeper : (l : List ℕ) (e : ℕ) → (read_message l ≡ deep e) ↔ TooDeep message_lexis message_levels l e
message-deeper l e = (λ h. message-deep h, λ t. message-too_deep t)

-- and nothing is left over
pub message_answer : (l : List ℕ) → ((j : Json) × MessageText l j) ⊎ (((e : ℕ) × Broken message_lexis message_levels l e) ⊎ ((e : ℕ) × TooDeep message_lexis message_levels l e))
message_answer l = go (read_message l) refl
  where
    go : (o : Out) → read_message l ≡ o
        → ((j : Json) × MessageText l j) ⊎ (((e : ℕ) × Broken message_lexis message_levels l e) ⊎ ((e : ℕ) × TooDeep message_lexis message_levels l e))
    go (whole js) h = let z = message-item h in inl (z.0, z.2)
    go (fault e) h = inr (inl (e, message-fault h))
    go (deep e) h = inr (inr (e, message-deep h))

-- Reference, Message answers 23: not message text, unless 24
pub message-refused : (l : List ℕ) → (((j : Json) → MessageText l j → ⊥) × ((e : ℕ) → TooDeep message_lexis message_levels l e → ⊥)) ↔ ((e : ℕ) × (read_message l ≡ fault e))
message-refused l = (λ n. go n (read_message l) refl, λ z. (λ j t. (message-fault z.1).invalid (item j no_items, t), λ e d. message_broken_or_deep (message-fault z.1) d))
  where
    go : ((j : Json) → MessageText l j → ⊥) × ((e : ℕ) → TooDeep message_lexis message_levels l e → ⊥) → (o : Out) → read_message l ≡ o → (e : ℕ) × (read_message l ≡ fault e)
    go n (whole js) h = let z = message-item h in absurd (n.0 z.0 z.2)
    go n (fault e) h = (e, h)
    go n (deep e) h = absurd (n.1 e (message-deep h))
