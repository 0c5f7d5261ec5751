-- Definitions of each kind: what the code finds under the keys makes the rows of the body that the keys say.
use Prim.Native.Nat.{ℕ, ◌+◌}
use mathlib.Core.Path.{◌≡◌, refl, sym, ap, ◌∙◌, subst}
use mathlib.Core.Bool.{Bool, true, false, cond}
use mathlib.Core.Logic.{◌⊎◌, inl, inr}
use mathlib.Core.List.{List, [], ◌∷◌, map}
use mathlib.Core.Option.{Option, none, some}
use lib.ListN.{set, length-map}
use Rattle.std.specs.Prelude.{Some, None}
use Rattle.std.specs.Prelude as Std
use Rattle.grammar.specs.Notation.{text, same, all, apart}
use Rattle.grammar.specs.Tree.{Json, Fields, start_of, end_of, kind_of}
use Rattle.grammar.specs.Tree.Kind.{string}
use Rattle.grammar.specs.Keys.{keys_of}
use Rattle.grammar.specs.Serving.Machine.Schema.{schema}
use Rattle.strings.specs.declared.dialects.Dialect.TheVariants.{Schema}
use Rattle.lookups.specs.Lookups.{FindsValue, FindsEach, NoOthers}
use Rattle.lookups.specs.Lookups.FindsEach.{nothing, ◌and◌}
use Rattle.lookups.proofs.KeyCounts.{only_these}
use Rattle.rules.specs.Kinds.{enum_kind, struct_kind, alternate_kind, alternative_kind}
use Rattle.rules.specs.Types.{same_kind}
use Rattle.rules.specs.Definitions.{Name, Body, Definition, quoted, as_name, as_names, as_members, as_pairs, as_data, must, may, only}
use Rattle.rules.specs.Definitions.{enum_body, struct_body, alternate_body}
use Rattle.rules.specs.Definitions.Data.{inline, named}
use Rattle.rules.specs.Definitions.Body.{enum, struct, alternate}
use Rattle.rules.specs.Values.{◌>>=◌, if_absent, value_at, any_of}
use Rattle.rules.specs.Rules.{is}
use Rattle.rules.specs.SchemaTable.{row, data_link}
use Rattle.rules.specs.Serving.RawTable.{packed}
use Rattle.rules.proofs.Lists.{clash, none-not-some, is_true}
use Rattle.definitions.specs.Places.{if_any, Found, Named, NamedRow, Links, BaseFits}
use Rattle.definitions.specs.Parts.{value_row, member_row, pair_row, child_rows, counted_rows, CountedAt, FieldsAt, KindKeys, keys_of_kind, BodyAt, body_rows, rows_at}
use Rattle.definitions.proofs.Options.{then, must-then, never}
use Rattle.definitions.proofs.CountLaws.{counted_rows_lem}

-- what stands under a key
pub found_at : {s w : List ℕ} {name : List ℕ} {fs : Fields} {k : ℕ} {r : Std.Option ℕ} → FieldsAt s w fs k → FindsValue schema s w k name r → Found s w (value_at name fs) r
found_at {fs = fs} h g = record { small = h.small; level = h.level; found = g.told fs h.level h.holds }

-- it is there, or nowhere
pub record Somewhere (s w : List ℕ) (o : Option Json) (k : ℕ) : Type 0 where
  pub value : Json
  pub is : o ≡ some value
  pub found : Found s w (some value) (Some k)

pub somewhere : {s w : List ℕ} {k : ℕ} {r : Std.Option ℕ} (o : Option Json) → Found s w o r → r ≡ Some k → Somewhere s w o k
somewhere {s} {w} {k} o f e = go o (subst (Found s w o) e f)
  where
    go : (o : Option Json) → Found s w o (Some k) → Somewhere s w o k
    go none f = absurd f.found
    go (some j) f = record { value = j; is = refl; found = f }

pub nowhere : {s w : List ℕ} {r : Std.Option ℕ} (o : Option Json) → Found s w o r → r ≡ None → o ≡ none
nowhere {s} {w} o f e = go o (subst (Found s w o) e f)
  where
    go : (o : Option Json) → Found s w o None → o ≡ none
    go none f = refl
    go (some j) f = absurd f.found

-- a body that is a row and its children, whatever its kind
counted-body : {A : Type 0} (f : A → List ℕ) (kind link n : ℕ) (name : Name) (body : List A → Body)
    → ((l : List A) → body_rows n name (body l) ≡ counted_rows (row kind name 0 link 0 0) (map f l)) → (shape : Json → Option (List A)) (o : Option Json)
    → ((must shape o >>= λ l. some (body l)) >>= λ b. some (body_rows n name b))
    ≡ (must (λ j. shape j >>= λ l. some (map f l)) o >>= λ rs. some (counted_rows (row kind name 0 link 0 0) rs))
counted-body f kind link n name body same shape o =
    then body (λ b. some (body_rows n name b)) (must shape o)
    ∙ counted_rows_lem f (row kind name 0 link 0 0) (λ l. body_rows n name (body l)) same (must shape o)
    ∙ ap (λ (x : Option (List (List ℕ))). x >>= λ rs. some (counted_rows (row kind name 0 link 0 0) rs)) (sym (must-then (map f) shape o))

-- with no other key, a definition is what its keys say
only_none : (ks : List (List ℕ)) (fs : Fields) (name : Name) (o : Option Body) → all (any_of ks) (keys_of fs) ≡ false → only ks fs name o ≡ none
only_none ks fs name none e = refl
only_none ks fs name (some b) e = rw e

only-body : (n : ℕ) (ks : List (List ℕ)) (fs : Fields) (name : Name) (o : Option Body) → all (any_of ks) (keys_of fs) ≡ true
    → (only ks fs name o >>= rows_at n) ≡ (o >>= λ b. some (body_rows n name b))
only-body n ks fs name none e = refl
only-body n ks fs name (some b) e = rw e

pub record BodyLeft (s w : List ℕ) (body : Fields → Option Body) (k v n : ℕ) (o : Option (List ℕ)) : Type 0 where
  pub fs : Fields
  pub fields : FieldsAt s w fs k
  pub name : Name
  pub named : Named w v 0 name
  pub are : o ≡ (body fs >>= λ b. some (body_rows n name b))

module _ {s w : List ℕ} (ks : KindKeys) (a : apart same (ks.own ∷ ks.others) ≡ true) {k v n : ℕ} {vs : List (Std.Option ℕ)} {t : Bool} (f : FindsEach schema s w k ks.others vs) (g : NoOthers w k (if_any v ∷ vs) t) where
  keys_are : {b : Bool} → t ≡ b → (o : Option (List ℕ)) (h : BodyAt s w ks k v n o) → all (any_of (ks.own ∷ ks.others)) (keys_of h.fs) ≡ b
  keys_are e o h = sym ((only_these Schema a (h.own and f) g e).told h.fs h.fields.level h.fields.holds h.once)

  pub other_key : t ≡ false → (o : Option (List ℕ)) → BodyAt s w ks k v n o → o ≡ none
  other_key e o h = h.are ∙ ap (λ (i : Option Definition). i >>= rows_at n) (only_none (ks.own ∷ ks.others) h.fs h.name (ks.body h.fs) (keys_are e o h))

  pub no_other-key : t ≡ true → (o : Option (List ℕ)) → BodyAt s w ks k v n o → BodyLeft s w ks.body k v n o
  no_other-key e o h =
      record {
        fs = h.fs;
        fields = h.fields;
        name = h.name;
        named = h.named;
        are = h.are ∙ only-body n (ks.own ∷ ks.others) h.fs h.name (ks.body h.fs) (keys_are e o h);
      }

-- a struct's base is data that is a name
base_data : (o : Option Json) (x : Option Name) → may as_name o ≡ some x → may as_data o ≡ some (x >>= λ n. some (named n))
base_data none x e = let z : x ≡ none = cc in rw z
base_data (some j) x e = go (same_kind (kind_of j) string) e
  where
    go : (b : Bool) → (cond b (some (quoted (start_of j) (end_of j))) none >>= λ n. some (some n)) ≡ some x
        → (cond b (some (named (quoted (start_of j) (end_of j)))) (as_members j >>= λ ms. some (inline ms)) >>= λ d. some (some d)) ≡ some (x >>= λ n. some (named n))
    go true q = let z : x ≡ some (quoted (start_of j) (end_of j)) = cc in rw z
    go false q = none-not-some q

base_link : (n : ℕ) (x : Option Name) → if_absent 0 (data_link packed n) (x >>= λ m. some (named m)) ≡ if_absent 0 packed x
base_link n none = refl
base_link n (some m) = refl

none_is : {A : Type 0} (o : Option A) → is o (λ _. true) ≡ false → o ≡ none
none_is none e = refl
none_is (some x) e = clash refl e

named-kind : {w own : List ℕ} {v kind : ℕ} → NamedRow w v 0 kind own → (x : ℕ) → kind ≡ x → NamedRow w v 0 x own
named-kind {w} {own} {v} m x e = subst (λ (i : ℕ). NamedRow w v 0 i own) e m

module _ {s w : List ℕ} {k v n : ℕ} {d : Std.Option ℕ} (f : FindsValue schema s w k (text "data") d) where
  list_of : {own : List ℕ} {body : Fields → Option Body} (kind link : ℕ) (o : Option (List ℕ)) (h : BodyLeft s w body k v n o) → own ≡ row kind h.name 0 link 0 0
      → (body h.fs >>= λ b. some (body_rows n h.name b))
      ≡ (must (child_rows (kind + 1)) (value_at (text "data") h.fs) >>= λ rs. some (counted_rows (row kind h.name 0 link 0 0) rs)) → CountedAt s w own d o
  list_of {own} kind link o h q e = subst (λ (x : List ℕ). CountedAt s w x d o) (sym q) (record { value = value_at (text "data") h.fs; found = found_at h.fields f; are = h.are ∙ e })

  -- an enum or an alternate
  module _ {kind : ℕ} {t : Bool} (g : NoOthers w k (if_any v ∷ d ∷ []) t) where
    at-kind : (x : ℕ) → kind ≡ x → (o : Option (List ℕ)) → BodyAt s w (keys_of_kind kind) k v n o → BodyAt s w (keys_of_kind x) k v n o
    at-kind x e o h = subst (λ (i : ℕ). BodyAt s w (keys_of_kind i) k v n o) e h

    pub list-refused : (kind ≡ enum_kind) ⊎ (kind ≡ alternate_kind) → t ≡ false → (o : Option (List ℕ)) → BodyAt s w (keys_of_kind kind) k v n o → o ≡ none
    list-refused (inl p) e o h = other_key (keys_of_kind enum_kind) refl (f and nothing) g e o (at-kind enum_kind p o h)
    list-refused (inr p) e o h = other_key (keys_of_kind alternate_kind) refl (f and nothing) g e o (at-kind alternate_kind p o h)

    module _ {own : List ℕ} (m : NamedRow w v 0 kind own) where
      enum-list : kind ≡ enum_kind → (o : Option (List ℕ)) → BodyLeft s w enum_body k v n o → CountedAt s w own d o
      enum-list e o h = list_of enum_kind 0 o h ((named-kind m enum_kind e).told h.name h.named) (counted-body value_row enum_kind 0 n h.name enum (λ l. rw (length-map l value_row)) as_names (value_at (text "data") h.fs))

      alternate-list : kind ≡ alternate_kind → (o : Option (List ℕ)) → BodyLeft s w alternate_body k v n o → CountedAt s w own d o
      alternate-list e o h = list_of alternate_kind 0 o h ((named-kind m alternate_kind e).told h.name h.named)
          (counted-body (pair_row alternative_kind) alternate_kind 0 n h.name alternate (λ l. rw (length-map l (pair_row alternative_kind))) as_pairs (value_at (text "data") h.fs))

      pub list_handed : (kind ≡ enum_kind) ⊎ (kind ≡ alternate_kind) → t ≡ true → (o : Option (List ℕ)) → BodyAt s w (keys_of_kind kind) k v n o → CountedAt s w own d o
      list_handed (inl p) e o h = enum-list p o (no_other-key (keys_of_kind enum_kind) refl (f and nothing) g e o (at-kind enum_kind p o h))
      list_handed (inr p) e o h = alternate-list p o (no_other-key (keys_of_kind alternate_kind) refl (f and nothing) g e o (at-kind alternate_kind p o h))

pub struct-list : {s w own : List ℕ} {k v n link : ℕ} {d base : Std.Option ℕ} {r : Bool} → FindsValue schema s w k (text "data") d → FindsValue schema s w k (text "base") base
    → BaseFits w base r → r ≡ true → NamedRow w v 0 struct_kind own → Links w base n link
    → (o : Option (List ℕ)) → BodyLeft s w struct_body k v n o → CountedAt s w (set own 4 link) d o
struct-list {s} {n = n} {link} f u e t m l o h =
    let b = value_at (text "base") h.fs in
    let z = found_at h.fields u in
    let x = is_true (may as_name b) (λ _. true) (e.told s b z ∙ t) in
    let y : link ≡ if_absent 0 packed x.0 = l.told s b z (x.0 >>= λ i. some (named i)) (base_data b x.0 x.1) ∙ base_link n x.0 in
    list_of f struct_kind link o h (ap (λ (i : List ℕ). set i 4 link) (m.told h.name h.named))
    (ap (λ (i : Option (Option Name)). (must as_members (value_at (text "data") h.fs) >>= λ ms. i >>= λ b. some (struct b ms)) >>= λ b. some (body_rows n h.name b)) x.1
    ∙ counted-body member_row struct_kind link n h.name (λ ms. struct x.0 ms) (λ ms. rw (y, length-map ms member_row)) as_members (value_at (text "data") h.fs))

pub struct-refused : {s w : List ℕ} {k v n : ℕ} {base : Std.Option ℕ} {r : Bool} → FindsValue schema s w k (text "base") base → BaseFits w base r → r ≡ false
    → (o : Option (List ℕ)) → BodyLeft s w struct_body k v n o → o ≡ none
struct-refused {s} {n = n} u e t o h =
    let b = value_at (text "base") h.fs in
    let z : may as_name b ≡ none = none_is (may as_name b) (e.told s b (found_at h.fields u) ∙ t) in
    h.are ∙ rw z (ap (λ (i : Option Body). i >>= λ x. some (body_rows n h.name x)) (never (must as_members (value_at (text "data") h.fs))))
