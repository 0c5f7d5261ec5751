-- The refusal that is given has the lowest number of those that apply, and no other has its number: both orders rise with the numbers.
use Prim.Native.Nat.{ℕ, ◌≤◌, ◌<◌}
use mathlib.Core.Path.{◌≡◌, refl, sym, ap, ◌∙◌, subst}
use mathlib.Core.Bool.{Bool, true, ◌&&◌}
use mathlib.Core.List.Memᴰ
use mathlib.Core.List.{List, [], ◌∷◌, map, Memᴰ}
use mathlib.Core.Logic.{⊎_elim}
use native.Mathlib.Omega.{arith}
use mathlib.Core.Option.{some}
use lib.Dec.{ltb}
use lib.ListN.{get_elem?}
use borrow.Author.Tests.{ltb-true}
use Rattle.rules.specs.declared.SchemaRefusal.{SchemaRefusal}
use Rattle.rules.specs.declared.MessageRefusal.{MessageRefusal}
use Rattle.rules.specs.declared.MessageRefusal.TheVariants as M
use Rattle.rules.specs.Refusals.{FirstOf}
use Rattle.rules.specs.SchemaAnswers.{schema_order}
use Rattle.rules.specs.SchemaAnswers as Schemas
use Rattle.rules.specs.MessageAnswers.{message_order}
use Rattle.rules.specs.MessageAnswers as Messages
use Rattle.rules.specs.Serving.Answers.{rank_in}
use Rattle.rules.proofs.Lists.{and_left, and_right}
use Rattle.rules.proofs.First.{nth}
use Rattle.rules.proofs.SchemaOutcome.{listed}

abbrev above : ℕ → List ℕ → Bool
above k [] = true
above k (n ∷ ns) = ltb k n && above k ns

abbrev rising : List ℕ → Bool
rising [] = true
rising (n ∷ ns) = above n ns && rising ns

module _ {A : Type 0} (number : A → ℕ) where
  above_in : (k : ℕ) (xs : List A) (y : A) → above k (map number xs) ≡ true → Memᴰ y xs → k < number y
  above_in k [] y h m = elim m [ ]
  above_in k (x ∷ xs) y h m =
      ⊎_elim (λ (e : y ≡ x). let l : k < number x = ltb-true k (number x) (and_left (ltb k (number x)) (above k (map number xs)) h) in omega (arith, ap number e))
      (λ n. above_in k xs y (and_right (ltb k (number x)) (above k (map number xs)) h) n) (Memᴰ.cases_cons m)

  first-lowest : (P : A → Type 0) (xs : List A) (x y : A) → rising (map number xs) ≡ true → FirstOf P xs x → Memᴰ y xs → P y → number x ≤ number y
  first-lowest P [] x y r h m p = absurd h
  first-lowest P (z ∷ zs) x y r h m p =
      ⊎_elim
      (λ f. ⊎_elim (λ (e : y ≡ z). omega (arith, ap number e, ap number f.0))
      (λ n. omega (arith, ap number f.0, above_in (number z) zs y (and_left (above (number z) (map number zs)) (rising (map number zs)) r) n)) (Memᴰ.cases_cons m))
      (λ g. ⊎_elim (λ (e : y ≡ z). absurd (g.0 (subst P e p)))
      (λ n. first-lowest P zs x y (and_right (above (number z) (map number zs)) (rising (map number zs)) r) g.1 n p) (Memᴰ.cases_cons m)) h

  number-only : (xs : List A) (x y : A) → rising (map number xs) ≡ true → Memᴰ x xs → Memᴰ y xs → number x ≡ number y → x ≡ y
  number-only [] x y r m k e = elim m [ ]
  number-only (z ∷ zs) x y r m k e =
      let up = and_left (above (number z) (map number zs)) (rising (map number zs)) r in
      ⊎_elim
      (λ (p : x ≡ z). ⊎_elim (λ (q : y ≡ z). p ∙ sym q) (λ j. absurd (omega (arith, ap number p, above_in (number z) zs y up j))) (Memᴰ.cases_cons k))
      (λ i. ⊎_elim (λ (q : y ≡ z). absurd (omega (arith, ap number q, above_in (number z) zs x up i)))
      (λ j. number-only zs x y (and_right (above (number z) (map number zs)) (rising (map number zs)) r) i j e) (Memᴰ.cases_cons k)) (Memᴰ.cases_cons m)

-- every refusal of a message is in the order, at its rank
message_ranked : (x : MessageRefusal) → get_elem? message_order (rank_in Messages.refusal_number message_order x) ≡ some x
message_ranked M.UnsoundTable = refl
message_ranked M.TooLong = refl
message_ranked M.NotText = refl
message_ranked M.TooDeep = refl
message_ranked M.RepeatedKey = refl
message_ranked M.NotEnvelope = refl
message_ranked M.UnknownCommand = refl
message_ranked M.NotOutOfBand = refl
message_ranked M.NoReading = refl
message_ranked M.NoRoom = refl

message-listed : (x : MessageRefusal) → Memᴰ x message_order
message-listed x = nth message_order (rank_in Messages.refusal_number message_order x) x (message_ranked x)

pub schema-lowest : (P : SchemaRefusal → Type 0) (x y : SchemaRefusal) → FirstOf P schema_order x → P y → Schemas.refusal_number x ≤ Schemas.refusal_number y
schema-lowest P x y h p = first-lowest Schemas.refusal_number P schema_order x y refl h (listed y) p

pub message-lowest : (P : MessageRefusal → Type 0) (x y : MessageRefusal) → FirstOf P message_order x → P y → Messages.refusal_number x ≤ Messages.refusal_number y
message-lowest P x y h p = first-lowest Messages.refusal_number P message_order x y refl h (message-listed y) p

-- no refusal has the number of an acceptance
pub schema-not-zero : (x : SchemaRefusal) → 0 < Schemas.refusal_number x
schema-not-zero x = above_in Schemas.refusal_number 0 schema_order x refl (listed x)

pub message-not-zero : (x : MessageRefusal) → 0 < Messages.refusal_number x
message-not-zero x = above_in Messages.refusal_number 0 message_order x refl (message-listed x)

-- no two refusals of a call have one number
pub schema_number-only : (x y : SchemaRefusal) → Schemas.refusal_number x ≡ Schemas.refusal_number y → x ≡ y
schema_number-only x y e = number-only Schemas.refusal_number schema_order x y refl (listed x) (listed y) e

pub message_number-only : (x y : MessageRefusal) → Messages.refusal_number x ≡ Messages.refusal_number y → x ≡ y
message_number-only x y e = number-only Messages.refusal_number message_order x y refl (message-listed x) (message-listed y) e
