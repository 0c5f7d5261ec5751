-- What is asked, from the envelope, the command that it names and whether it may use it; and that what is asked repeats no key.
use Prim.Native.Nat.{ℕ, zero, suc, ◌+◌, ◌-◌, ◌^◌, ◌≤◌, ◌<◌}
use native.Mathlib.Omega.{arith}
use mathlib.Core.Path.{◌≡◌, refl, sym, ap, ◌∙◌, subst}
use mathlib.Core.Bool.{Bool, true, false, cond}
use mathlib.Core.List.{List, [], ◌∷◌}
use mathlib.Core.Option.{Option, none, some}
use lib.Dec.{eqb}
use Rattle.grammar.specs.Limits.{table_rows}
use Rattle.grammar.specs.Notation.{text, same, all, apart}
use Rattle.grammar.specs.Tree.{Json, Fields}
use Rattle.grammar.specs.Tree.Scalar.{str}
use Rattle.grammar.specs.Tree.Json.{leaf, arr, obj}
use Rattle.grammar.specs.Tree.Fields.{no_fields, field}
use Rattle.grammar.specs.Keys.{keys_of, keys_once, keys_once_f}
use Rattle.grammar.specs.Serving.Machine.Message.{message}
use Rattle.rules.specs.Types.{first_row}
use Rattle.rules.specs.declared.MessageRefusal.TheVariants as M
use Rattle.rules.specs.Kinds.{command_kind, struct_kind}
use Rattle.rules.specs.Rows.{row_count, kind, data_struct, allow_oob, link_ref}
use Rattle.rules.specs.Sound.{sound}
use Rattle.rules.specs.Values.{◌>>=◌, as_fields, as_string, value_at, any_of}
use Rattle.rules.specs.Envelope.{Envelope, as_arguments, as_call, envelope, may_use, arguments_of}
use Rattle.rules.specs.Envelope as Spec
use Rattle.rules.specs.Serving.Answers as Answers
use Rattle.rules.specs.Serving.Answers.{command_of, command_asking, envelope_asking, asking}
use Rattle.rules.proofs.Lists.{none-not-some, and_left, and_right}
use Rattle.rules.proofs.SchemaOutcome.{bind_some}
use Rattle.rules.proofs.SoundFacts.{sound-facts}
use Rattle.rules.proofs.Commands.{command-found}
use Rattle.text.specs.Nodes.{Holds}
use Rattle.message.specs.declared.commands.Command.{Command}
use Rattle.message.specs.declared.commands.Command.TheVariants.{Row, Unknown}
use Rattle.message.specs.declared.envelope.Envelope as E
use Rattle.message.specs.declared.envelope.Envelope.TheVariants.{Call, Improper}
use Rattle.message.specs.declared.asked.Asked.{Asked}
use Rattle.message.specs.declared.asked.Asking.TheVariants.{Asks, Refuses}
use Rattle.message.specs.Commands.{as_command, FindsCommand}
use Rattle.message.specs.Envelopes.{SaidAt, EnvelopeTold, ReadsEnvelope}
use Rattle.message.specs.Asking.{StandsAt, AskingTold, AsksFor}

-- out of band wants the command's flag
pub out_of_band_use : (T : List ℕ) (c : ℕ) {w : ℕ} {oob : Bool} → oob ≡ true → w ≡ allow_oob T c → eqb w 1 ≡ may_use T c oob
out_of_band_use T c e p = rw (e, p) refl

-- the link of a command's data is small in a sound table
small-link : (S T : List ℕ) (c : ℕ) → sound S T ≡ true → kind T c ≡ command_kind → data_struct T c ≤ table_rows
small-link S T c ok k = go (data_struct T c) refl
  where
    go : (l : ℕ) → data_struct T c ≡ l → l ≤ table_rows
    go zero e = omega arith
    go (suc r) e =
        let q : kind T r ≡ struct_kind = (sound-facts S T ok).command_link c k r e in
        omega (arith, (sound-facts S T ok).row_there r (omega arith), (sound-facts S T ok).few_rows)

module _ {S T m w : List ℕ} {v : E.Envelope} (f : ReadsEnvelope m w v) where
  -- an improper envelope
  pub improper : v ≡ Improper → AsksFor S T m w (Refuses M.NotEnvelope)
  improper e = record { told = λ ok j l h k. go (l - 1) (envelope j) (f.told j l h k) }
    where
      go : (l : ℕ) (o : Option Envelope) → EnvelopeTold m w l o v → AskingTold m w l (envelope_asking S T o) (Refuses M.NotEnvelope)
      go l none t = refl
      go l (some x) t = let z : Improper ≡ Call t.name x.out_of_band t.arguments = sym e ∙ t.is in let y : ◌≡◌ {A = ℕ} 0 1 = cc in absurd (omega arith)

  module _ {name args : ℕ} {oob : Bool} (e : v ≡ Call name oob args) {q : Command} (g : FindsCommand S T m w name q) where
    -- what the envelope says of the value j, and the command found by it
    record Said (j : Json) (l : ℕ) : Type 0 where
      says : Envelope
      proper : envelope j ≡ some says
      at : SaidAt m w l says v
      finds : q ≡ as_command (command_of S T says)
      band : oob ≡ says.out_of_band
      args_at : at.arguments ≡ args

    said : (j : Json) (l : ℕ) → Holds message m w j l 0 → keys_once j ≡ true → Said j (l - 1)
    said j l h k = go (envelope j) refl (f.told j l h k)
      where
        go : (o : Option Envelope) → envelope j ≡ o → EnvelopeTold m w (l - 1) o v → Said j (l - 1)
        go none p t = let z : Call name oob args ≡ Improper = sym e ∙ t in let y : ◌≡◌ {A = ℕ} 0 1 = cc in absurd (omega arith)
        go (some x) p t =
            let z : Call name oob args ≡ Call t.name x.out_of_band t.arguments = sym e ∙ t.is in
            let n : t.name ≡ name = cc in
            record {
              says = x;
              proper = p;
              at = t;
              finds = g.told t.name_start t.name_end (l - 1) x.name
                  (subst (λ (i : ℕ). Holds message m w (leaf t.name_start t.name_end (str x.name)) (l - 1) i) n t.name_holds);
              band = let y : oob ≡ x.out_of_band = cc in y;
              args_at = let y : t.arguments ≡ args = cc in y;
            }

    pub unknown : q ≡ Unknown → AsksFor S T m w (Refuses M.UnknownCommand)
    unknown p = record { told = λ ok j l h o. go j (l - 1) (said j l h o) }
      where
        missed : (o : Option ℕ) → q ≡ as_command o → o ≡ none
        missed none t = refl
        missed (some c) t = let z : Unknown ≡ Row c = sym p ∙ t in let y : ◌≡◌ {A = ℕ} 0 1 = cc in absurd (omega arith)

        go : (j : Json) (l : ℕ) → Said j l → AskingTold m w l (asking S T j) (Refuses M.UnknownCommand)
        go j l s = rw (s.proper, missed (command_of S T s.says) s.finds) refl

    module _ {c : ℕ} (p : q ≡ Row c) where
      found : {j : Json} {l : ℕ} (s : Said j l) → command_of S T s.says ≡ some c
      found s = go (command_of S T s.says) s.finds
        where
          go : (o : Option ℕ) → q ≡ as_command o → o ≡ some c
          go none t = let z : Row c ≡ Unknown = sym p ∙ t in let y : ◌≡◌ {A = ℕ} 0 1 = cc in absurd (omega arith)
          go (some d) t = let z : Row c ≡ Row d = sym p ∙ t in let y : some d ≡ some c = cc in y

      module _ {b : Bool} (u : b ≡ may_use T c oob) where
        used : {j : Json} {l : ℕ} (s : Said j l) → b ≡ may_use T c s.says.out_of_band
        used s = u ∙ ap (may_use T c) s.band

        pub not_allowed : b ≡ false → AsksFor S T m w (Refuses M.NotOutOfBand)
        not_allowed t = record { told = λ ok j l h o. go j (l - 1) (said j l h o) }
          where
            go : (j : Json) (l : ℕ) → Said j l → AskingTold m w l (asking S T j) (Refuses M.NotOutOfBand)
            go j l s = rw (s.proper, found s, sym (used s) ∙ t) refl

        pub allowed : b ≡ true → {x : Asked} {t k : ℕ} → k ≡ data_struct T c → (k + first_row < 2 ^ 32 → t ≡ link_ref k) → x.node ≡ args → x.how.reference ≡ t → x.how.array ≡ 0
            → x.how.passes ≡ false → x.second ≡ c → AsksFor S T m w (Asks x)
        allowed y {x} {t} {k} a r n i o z d = record { told = λ ok j l h o. go ok j (l - 1) (said j l h o) }
          where
            go : sound S T ≡ true → (j : Json) (l : ℕ) → Said j l → AskingTold m w l (asking S T j) (Asks x)
            go ok j l s =
                let C = command-found S T s.says.name (row_count T) 0 c (omega arith) (found s) in
                let small = small-link S T c ok C.command in
                rw (s.proper, found s, sym (used s) ∙ y)
                (record {
                  ref = i ∙ r (omega arith) ∙ ap link_ref a;
                  array = o;
                  policy = z;
                  second = d;
                  at = subst (λ (i : ℕ). StandsAt m w l s.says.arguments i) (s.args_at ∙ sym n) s.at.arguments_hold;
                })

-- a value under a key, and so the arguments of an envelope, repeats no key where the whole doesn't
value-once : (k : List ℕ) (fs : Fields) {j : Json} → keys_once_f fs ≡ true → value_at k fs ≡ some j → keys_once j ≡ true
value-once k no_fields h e = absurd (none-not-some e)
value-once k (field a b key i fs) {j} h e = go (same key k) e (value-once k fs (and_right (keys_once i) (keys_once_f fs) h))
  where
    go : (t : Bool) → cond t (some i) (value_at k fs) ≡ some j → (value_at k fs ≡ some j → keys_once j ≡ true) → keys_once j ≡ true
    go true p f = let q : i ≡ j = cc in subst (λ (x : Json). keys_once x ≡ true) q (and_left (keys_once i) (keys_once_f fs) h)
    go false p f = f p

arguments-once : (j : Json) {v : Envelope} → keys_once j ≡ true → envelope j ≡ some v → keys_once v.arguments ≡ true
unfolding envelope
arguments-once j {v} h e = go j h e
  where
    proper : (fs : Fields) (o : Option Json) {a : Json} → keys_once_f fs ≡ true → value_at (text "arguments") fs ≡ o → as_arguments o ≡ some a → keys_once a ≡ true
    proper fs none {a} h p q = let z : obj 0 0 no_fields ≡ a = cc in subst (λ (x : Json). keys_once x ≡ true) z refl
    proper fs (some i) {a} h p q =
        let z : i ≡ a = let f = bind_some (as_fields i) _ a q in let y : i ≡ a = cc in y in
        subst (λ (x : Json). keys_once x ≡ true) z (value-once (text "arguments") fs h p)

    by : (fs : Fields) (oob : Bool) (o : Option (List ℕ)) → keys_once_f fs ≡ true
        → (o >>= λ name. as_arguments (value_at (text "arguments") fs) >>= λ a. some (record { name = name; out_of_band = oob; arguments = a })) ≡ some v → keys_once v.arguments ≡ true
    by fs oob o h e =
        let n = bind_some o _ v e in
        let a = bind_some (as_arguments (value_at (text "arguments") fs)) _ v n.2 in
        let z : a.0 ≡ v.arguments = ap (λ (x : Option Envelope). elim x [ none ↦ a.0 | some y ↦ y.arguments ]) a.2 in
        subst (λ (x : Json). keys_once x ≡ true) z (proper fs (value_at (text "arguments") fs) h refl a.1)

    named : (fs : Fields) (x y : Option Json) → keys_once_f fs ≡ true → as_call x y (value_at (text "arguments") fs) ≡ some v → keys_once v.arguments ≡ true
    named fs none none h e = absurd (none-not-some e)
    named fs (some i) none h e = by fs false (as_string i) h e
    named fs none (some i) h e = by fs true (as_string i) h e
    named fs (some i) (some k) h e = absurd (none-not-some e)

    only : (fs : Fields) (t : Bool) → keys_once_f fs ≡ true
        → cond t (as_call (value_at (text "execute") fs) (value_at (text "exec-oob") fs) (value_at (text "arguments") fs)) none ≡ some v → keys_once v.arguments ≡ true
    only fs true h e = named fs (value_at (text "execute") fs) (value_at (text "exec-oob") fs) h e
    only fs false h e = absurd (none-not-some e)

    go : (j : Json) → keys_once j ≡ true → envelope j ≡ some v → keys_once v.arguments ≡ true
    go (leaf a b x) h e = absurd (none-not-some e)
    go (arr a b js) h e = absurd (none-not-some e)
    go (obj a b fs) h e =
        only fs (all (any_of (text "execute" ∷ text "exec-oob" ∷ text "arguments" ∷ text "id" ∷ [])) (keys_of fs)) (and_right (apart same (keys_of fs)) (keys_once_f fs) h) e

pub asked-once : (S T : List ℕ) (j : Json) (a : Spec.Asked) → keys_once j ≡ true → asking S T j ≡ Answers.Asking.asks a → keys_once a.value ≡ true
asked-once S T j a h e = go (envelope j) refl e
  where
    banded : (v : Envelope) (c : ℕ) (b : Bool) → keys_once v.arguments ≡ true → cond b (Answers.Asking.asks (arguments_of T v c)) (Answers.Asking.refuses M.NotOutOfBand) ≡ Answers.Asking.asks a → keys_once a.value ≡ true
    banded v c true k p = let z : arguments_of T v c ≡ a = cc in subst (λ (x : Spec.Asked). keys_once x.value ≡ true) z k
    banded v c false k p = let z : ◌≡◌ {A = ℕ} 0 1 = cc in absurd (omega arith)

    named : (v : Envelope) (o : Option ℕ) → keys_once v.arguments ≡ true → command_asking S T v o ≡ Answers.Asking.asks a → keys_once a.value ≡ true
    named v none k p = let z : ◌≡◌ {A = ℕ} 0 1 = cc in absurd (omega arith)
    named v (some c) k p = banded v c (may_use T c v.out_of_band) k p

    go : (o : Option Envelope) → envelope j ≡ o → envelope_asking S T o ≡ Answers.Asking.asks a → keys_once a.value ≡ true
    go none q p = let z : ◌≡◌ {A = ℕ} 0 1 = cc in absurd (omega arith)
    go (some v) q p = named v (command_of S T v) (arguments-once j h q) p

-- the type reference to a link's row
module _ {k t : ℕ} where
  pub no_link : k ≡ 0 → t ≡ 0 → k + first_row < 2 ^ 32 → t ≡ link_ref k
  no_link e p h = p ∙ ap link_ref (sym e)

  pub a-link : (k ≡ 0 → ⊥) → t ≡ k - 1 + first_row → k + first_row < 2 ^ 32 → t ≡ link_ref k
  a-link n p h = let e : k ≡ suc (k - 1) = omega arith in let q : t ≡ first_row + (k - 1) = omega arith in q ∙ ap link_ref (sym e)
