-- Commands: what the code finds under the keys, and the rows that it puts, make the rows of the command.
use Prim.Native.Nat.{ℕ, ◌+◌}
use native.Mathlib.Omega.{arith}
use mathlib.Core.Path.{◌≡◌, refl, ap, ◌∙◌, subst}
use mathlib.Core.Bool.{Bool, false}
use mathlib.Core.List.{List, ◌++◌}
use mathlib.Core.Option.{Option, none, some}
use Rattle.grammar.specs.Notation.{text}
use Rattle.grammar.specs.Tree.{Fields}
use Rattle.grammar.specs.Serving.Machine.Schema.{schema}
use Rattle.lookups.specs.Lookups.{FindsValue}
use Rattle.rules.specs.Kinds.{command_kind}
use Rattle.rules.specs.Definitions.{Name, TypeText, Data, as_type, as_data, may}
use Rattle.rules.specs.Definitions.{command_body}
use Rattle.rules.specs.Definitions.Body.{command}
use Rattle.rules.specs.Values.{◌>>=◌, if_absent, as_flag, value_at}
use Rattle.rules.specs.SchemaTable.{row, flag, list_flag, type_of, data_link}
use Rattle.rules.specs.Serving.RawTable.{packed}
use Rattle.definitions.specs.declared.shapes.TypeText as Text
use Rattle.definitions.specs.Places.{NamedRow, ReturnTold, TakesReturn, FlagTold, FlagTaken, TakesFlag, Links}
use Rattle.std.specs.Prelude.{Result, Ok, Err}
use Rattle.std.specs.Prelude as Std
use lib.ListN.{set}
use Rattle.definitions.specs.declared.writing.NotDefinitions.{NotDefinitions}
use Rattle.definitions.specs.Written.{RowPut, RowsAre, PutsRows}
use Rattle.definitions.specs.Parts.{InlineAt, FieldsAt, CommandAt, inline_words, body_rows}
use Rattle.definitions.proofs.Stores.{put_under}
use Rattle.definitions.proofs.CountLaws.{inline-put, inline-none}
use Rattle.definitions.proofs.BodyLaws.{found_at, BodyLeft}

-- the rows of a command, given what it returns and its flag; none without these
module _ (n : ℕ) (name : Name) where
  abbrev command_so : Option (Option Data) → Option (Option TypeText) → Option (Option Bool) → Option (List ℕ)
  command_so x y z = (x >>= λ a. y >>= λ t. z >>= λ f. some (command a t (if_absent false (λ b. b) f))) >>= λ b. some (body_rows n name b)

  command_untyped : (x : Option (Option Data)) (z : Option (Option Bool)) → command_so x none z ≡ none
  command_untyped none z = refl
  command_untyped (some a) z = refl

  command_unflagged : (x : Option (Option Data)) (y : Option (Option TypeText)) → command_so x y none ≡ none
  command_unflagged none y = refl
  command_unflagged (some a) none = refl
  command_unflagged (some a) (some t) = refl

  command-said : (x : Option (Option Data)) (t : Option TypeText) (f : Option Bool) → command_so x (some t) (some f) ≡ (x >>= λ a. some (body_rows n name (command a t (if_absent false (λ b. b) f))))
  command-said none t f = refl
  command-said (some a) t f = refl

returned : {s w : List ℕ} {k : ℕ} {r : Std.Option ℕ} {x y : Result Text.TypeText NotDefinitions} {fs : Fields} → FindsValue schema s w k (text "returns") r → TakesReturn w r x → x ≡ y → FieldsAt s w fs k
    → ReturnTold (may as_type (value_at (text "returns") fs)) y
returned {s} {fs = fs} f h e u = subst (λ (i : Result Text.TypeText NotDefinitions). ReturnTold (may as_type (value_at (text "returns") fs)) i) e (h.told s (value_at (text "returns") fs) (found_at u f))

flagged : {s w : List ℕ} {k : ℕ} {r : Std.Option ℕ} {x y : Result Bool NotDefinitions} {fs : Fields} → FindsValue schema s w k (text "allow-oob") r → TakesFlag w r x → x ≡ y → FieldsAt s w fs k
    → FlagTold (may as_flag (value_at (text "allow-oob") fs)) y
flagged {s} {fs = fs} f h e u = subst (λ (i : Result Bool NotDefinitions). FlagTold (may as_flag (value_at (text "allow-oob") fs)) i) e (h.told s (value_at (text "allow-oob") fs) (found_at u f))

same-command : {place list oob : ℕ} (n : ℕ) (name : Name) (t : Option TypeText) (y : Bool) (a : Option Data) → place ≡ if_absent 0 (type_of packed) t → list ≡ if_absent 0 list_flag t → oob ≡ flag y
    → some (body_rows n name (command a t y))
    ≡ some (row command_kind name (if_absent 0 (data_link packed n) a) oob place list ++ inline_words a)
same-command n name t y a e f g = cc

module _ {s w : List ℕ} {k v n : ℕ} {r : Std.Option ℕ} {x : Result Text.TypeText NotDefinitions} (f : FindsValue schema s w k (text "returns") r) (h : TakesReturn w r x) where
  pub command-bad_return : {bad : NotDefinitions} → x ≡ Err bad → (o : Option (List ℕ)) → BodyLeft s w command_body k v n o → o ≡ none
  command-bad_return e o u =
      let d = may as_data (value_at (text "data") u.fs) in
      let z = may as_flag (value_at (text "allow-oob") u.fs) in
      u.are ∙ ap (λ (y : Option (Option TypeText)). command_so n u.name d y z) (returned f h e u.fields) ∙ command_untyped n u.name d z

  module _ {b : Std.Option ℕ} {p : Result Bool NotDefinitions} (g : FindsValue schema s w k (text "allow-oob") b) (m : TakesFlag w b p) where
    pub command-bad-flag : {bad : NotDefinitions} → p ≡ Err bad → (o : Option (List ℕ)) → BodyLeft s w command_body k v n o → o ≡ none
    command-bad-flag e o u =
        let d = may as_data (value_at (text "data") u.fs) in
        let y = may as_type (value_at (text "returns") u.fs) in
        u.are ∙ ap (λ (z : Option (Option Bool)). command_so n u.name d y z) (flagged g m e u.fields) ∙ command_unflagged n u.name d y

    pub command_handed : {d : Std.Option ℕ} {type : Text.TypeText} {oob : Bool} → x ≡ Ok type → p ≡ Ok oob → FindsValue schema s w k (text "data") d
        → (o : Option (List ℕ)) → BodyLeft s w command_body k v n o → CommandAt s w v d n oob type o
    command_handed {type = type} {oob} e q l o u =
        let value = value_at (text "data") u.fs in
        let t : ReturnTold (may as_type (value_at (text "returns") u.fs)) (Ok type) = returned f h e u.fields in
        let y : FlagTaken (may as_flag (value_at (text "allow-oob") u.fs)) oob = flagged g m q u.fields in
        record {
          value = value;
          found = found_at u.fields l;
          name = u.name;
          named = u.named;
          are =
              u.are
              ∙ ap (λ (i : Option (Option TypeText)). command_so n u.name (may as_data value) i (may as_flag (value_at (text "allow-oob") u.fs))) t.is
              ∙ ap (λ (i : Option (Option Bool)). command_so n u.name (may as_data value) (some t.type) i) y.is
              ∙ command-said n u.name (may as_data value) t.type y.value
              ∙ go (may as_data value) (λ a. same-command n u.name t.type (if_absent false (λ b. b) y.value) a t.place t.list (ap flag y.says));
        }
      where
        go : {A B : Type 0} (i : Option A) {f g : A → Option B} → ((a : A) → f a ≡ g a) → (i >>= f) ≡ (i >>= g)
        go none e = refl
        go (some a) e = e a

same_words : {a b c i j k : ℕ} (name : Name) (p : ℕ) → a ≡ i → b ≡ j → c ≡ k → row command_kind name a b p c ≡ row command_kind name i j p k
same_words name p e f g = cc

-- the rows of a command, out of what was put
module _ {s w : List ℕ} {v n : ℕ} {d : Std.Option ℕ} {oob : Bool} {type : Text.TypeText} {old mid : List ℕ} {next most : ℕ} {r : Result ℕ NotDefinitions} (h : PutsRows (InlineAt s w d) old mid next most r) where
  pub command-bad_data : {bad : NotDefinitions} → r ≡ Err bad → (o : Option (List ℕ)) → CommandAt s w v d n oob type o → o ≡ none
  command-bad_data q o u = u.are ∙ rw (inline-none h u.found q)

  pub command-put : {new own : List ℕ} {m link flagged list : ℕ} → next ≡ n + 1 → r ≡ Ok m → NamedRow w v 0 command_kind own → Links w d n link → flagged ≡ flag oob → list ≡ flag type.list
      → RowPut mid new n (set (set (set (set own 3 link) 4 flagged) 5 type.name) 6 list) → (o : Option (List ℕ)) → CommandAt s w v d n oob type o → RowsAre o old new n m
  command-put {new} {link = link} {flagged} {list} e q names l x y k o u =
      let i = inline-put h u.found q in
      let a : link ≡ if_absent 0 (data_link packed n) i.data_is = l.told s u.value u.found i.data_is i.are in
      let b : RowPut mid new n (row command_kind u.name link flagged type.name list) =
      subst (λ (xs : List ℕ). RowPut mid new n (set (set (set (set xs 3 link) 4 flagged) 5 type.name) 6 list)) (names.told u.name u.named) k in
      let put : RowPut mid new n (row command_kind u.name (if_absent 0 (data_link packed n) i.data_is) (flag oob) type.name (flag type.list)) =
      subst (λ (xs : List ℕ). RowPut mid new n xs) (same_words u.name type.name a x y) b in
      record {
        xs = row command_kind u.name (if_absent 0 (data_link packed n) i.data_is) (flag oob) type.name (flag type.list) ++ inline_words i.data_is;
        are = u.are ∙ rw i.are refl;
        size = omega (arith, i.size);
        put = put_under (omega arith) i.put put;
      }
