-- How a run begins: without a file, with a refused schema, with an accepted one; and a file longer than a schema may be is answered by its first bytes.
-- The idea: the call's outcome is the definition's; a schema cut beyond the limit is refused as the whole of it is.
use Prim.Native.Nat.{ℕ, ◌+◌, ◌*◌, ◌-◌, ◌≤◌, ◌<◌, min}
use native.Mathlib.Nat.{min-eq_left, le_of_lt}
use native.Mathlib.Omega.{arith}
use mathlib.Core.Path.{◌≡◌, refl, sym, ap, subst, ◌∙◌}
use mathlib.Core.Bool.{Bool, true, false}
use mathlib.Core.List.{List, [], ◌++◌}
use Rattle.std.specs.Prelude.{Option, Some, None}
use lib.Dec.{leb}
use lib.ListN.{length, take, replicate, length-take}
use lib.Seq.{take_all}
use borrow.Author.Tests.{leb-true, leb-false, lt-ltb}
use Rattle.grammar.specs.Limits.{schema_bytes, row_words}
use Rattle.grammar.proofs.Booleans.{min_right}
use Rattle.rules.specs.declared.SchemaRefusal.TheVariants.{TooLong}
use Rattle.rules.specs.declared.SchemaAnswer.{SchemaAnswer}
use Rattle.rules.specs.declared.SchemaAnswer.TheVariants.{Accepted, Refused}
use Rattle.rules.specs.Serving.Answers.{SchemaResult, schema_result}
use Rattle.schema.specs.Stages.{Compiles}
use Rattle.console.specs.declared.answers.Style.{Style}
use Rattle.console.specs.declared.answers.Style.TheVariants.{Numbers, Tree}
use Rattle.console.specs.Program.{table_room, record_room, no_schema, schema_text, answers_to, first_line, message_lines, later_lines}
use Rattle.console.specs.Serving.Beginning.{cut_file, table_words, TableOf, Messages, Follows, Opens}
use Rattle.console.proofs.AnswerLaws.{take_least}

pub opens_none : (s : Style) {rows old new : List ℕ} → new ≡ old ++ no_schema → Opens s None rows old new None
opens_none s e = record { puts = e; follows = λ input. refl }

pub opens_file : {s : Style} {f g : Option (List ℕ)} {rows old new : List ℕ} {r : Option ℕ} → f ≡ g → Opens s g rows old new r → Opens s f rows old new r
opens_file {s} {rows = rows} {old} {new} {r} e o = subst (λ (x : Option (List ℕ)). Opens s x rows old new r) (sym e) o

-- ---- the schema's answer
module _ (s : Style) {S before rows : List ℕ} {a : SchemaAnswer} (lent : length before ≡ table_room) (x : Compiles S before rows a) where
  outcome : schema_result S table_room ≡ record { answer = a; words = rows }
  outcome = ap (schema_result S) (sym lent) ∙ x.told

  follows : (b : SchemaAnswer) → a ≡ b → Follows s (Some S) rows (table_words b (length rows))
  follows (Refused y q) e = λ input. ap (λ (o : SchemaResult). message_lines s S o.words o.answer input) outcome ∙ ap (λ (b : SchemaAnswer). message_lines s S rows b input) e
  follows (Accepted count) e =
      let n : ℕ = row_words * count in
      record {
        schema = S;
        read = refl;
        within = min_right n (length rows);
        table = record {
          count = count;
          accepted = ap (λ (o : SchemaResult). o.answer) outcome ∙ e;
          rows = take_least n rows (leb n (length rows)) refl ∙ ap (λ (o : SchemaResult). take n o.words) (sym outcome);
        };
      }

  pub opens_schema : {old new : List ℕ} {w : Option ℕ} → new ≡ old ++ schema_text s S a → w ≡ table_words a (length rows) → Opens s (Some S) rows old new w
  opens_schema {old} p e = record {
    puts = p ∙ ap (λ (o : SchemaResult). old ++ schema_text s S o.answer) (sym outcome);
    follows = subst (Follows s (Some S) rows) (sym e) (follows a refl);
  }

-- ---- what a caller knows of messages that follow
module _ {s : Style} {file : Option (List ℕ)} {rows old new : List ℕ} {r : Option ℕ} (o : Opens s file rows old new r) {words : ℕ} (e : r ≡ Some words) where
  messages : Messages file rows words
  messages = subst (Follows s file rows) e o.follows

  pub words_lent : words ≤ length rows
  words_lent = messages.within

  pub table_lent : {S : List ℕ} → file ≡ Some S → TableOf S (take words rows)
  table_lent f = let q : messages.schema ≡ _ = cc (messages.read, f) in subst (λ (R : List ℕ). TableOf R (take words rows)) q messages.table

-- the messages are answered by the table
pub table-answers : (s : Style) {S T : List ℕ} (t : TableOf S T) (input : List ℕ) → later_lines s (Some S) input ≡ answers_to s S T record_room [] input
table-answers s {S} {T} t input =
    ap (λ (a : SchemaAnswer). message_lines s S (schema_result S table_room).words a input) t.accepted ∙ ap (λ (R : List ℕ). answers_to s S R record_room [] input) (sym t.rows)

-- ---- a file longer than a schema
long_schema : SchemaResult
long_schema = record { answer = Refused TooLong 0; words = replicate table_room 0 }

too_long : (S : List ℕ) → schema_bytes < length S → schema_result S table_room ≡ long_schema
unfolding schema_result long_schema
too_long S h = rw (lt-ltb schema_bytes (length S) h) refl

-- what a file's answer says does not depend on the bytes beyond the limit
module _ {A : Type 0} (f : List ℕ → SchemaResult → A) (g : (R S : List ℕ) → f R long_schema ≡ f S long_schema) where
  cut_by : (S : List ℕ) (t : Bool) → leb (length S) (schema_bytes + 1) ≡ t → f (take (schema_bytes + 1) S) (schema_result (take (schema_bytes + 1) S) table_room) ≡ f S (schema_result S table_room)
  cut_by S true e = ap (λ (R : List ℕ). f R (schema_result R table_room)) (take_all (schema_bytes + 1) S (leb-true (length S) (schema_bytes + 1) e))
  cut_by S false e =
      let l : schema_bytes + 1 < length S = leb-false (length S) (schema_bytes + 1) e in
      let R : List ℕ = take (schema_bytes + 1) S in
      let k : schema_bytes < length R = simp length-take (omega (arith, min-eq_left (le_of_lt l))) in
      ap (f R) (too_long R k) ∙ g R S ∙ ap (f S) (sym (too_long S (omega arith)))

  cut : (S : List ℕ) → f (take (schema_bytes + 1) S) (schema_result (take (schema_bytes + 1) S) table_room) ≡ f S (schema_result S table_room)
  cut S = cut_by S (leb (length S) (schema_bytes + 1)) refl

-- such a file shows no bytes of its own
long-text : (s : Style) (R S : List ℕ) → schema_text s R long_schema.answer ≡ schema_text s S long_schema.answer
unfolding long_schema
long-text Numbers R S = refl
long-text Tree R S = refl

pub first_cut : (s : Style) (file : Option (List ℕ)) → first_line s (cut_file file) ≡ first_line s file
first_cut s None = refl
first_cut s (Some S) = cut (λ R o. schema_text s R o.answer) (long-text s) S

pub later_cut : (s : Style) (file : Option (List ℕ)) (input : List ℕ) → later_lines s (cut_file file) input ≡ later_lines s file input
unfolding long_schema
later_cut s None input = refl
later_cut s (Some S) input = cut (λ R o. message_lines s R o.words o.answer input) (λ R S. refl) S
