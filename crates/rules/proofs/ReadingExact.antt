-- In a sound table the function gives exactly the readings that the rules allow, so there is at most one.
-- The idea: complete by the derivation, with an alternate's alternative found by the value's kind; correct by the tree, each piece read back into a rule.
use Prim.Native.Nat.{ℕ, suc, ◌+◌, ◌-◌}
use mathlib.Core.Path.{◌≡◌, refl, sym, ap, ◌∙◌, subst, subst₂}
use mathlib.Core.Bool.{Bool, true, false, cond, ◌&&◌}
use mathlib.Core.Logic.{◌↔◌, ⊎_elim}
use mathlib.Core.List.{List, [], ◌∷◌, ◌++◌, Memᴰ, append-nil}
use mathlib.Core.Option.{Option, none, some}
use native.Mathlib.Omega.{arith}
use lib.Dec.{eqb}
use borrow.Author.Tests.{eqb-true}
use Rattle.grammar.specs.Limits.{chain_structs}
use Rattle.grammar.specs.Notation.{same, apart}
use Rattle.grammar.specs.Tree.{Scalar, Json, Items, Fields, kind_of}
use Rattle.grammar.specs.Tree.Scalar.{null, bool, num, str}
use Rattle.grammar.specs.Tree.Json.{leaf, arr, obj}
use Rattle.grammar.specs.Tree.Items.{no_items, item}
use Rattle.grammar.specs.Tree.Fields.{no_fields, field}
use Rattle.grammar.specs.Tree.Kind.{object, string}
use Rattle.rules.specs.Kinds.{enum_kind, union_kind, alternate_kind}
use Rattle.rules.specs.Types.{first_row, is_built_in, built_in_takes, takes}
use Rattle.rules.specs.Values.{value_at, any_of}
use Rattle.rules.specs.Rows.{kind, type_ref, array_mark, union_base, discriminator, children, members, name_of, type_kind}
use Rattle.rules.specs.Rules.{is, names_of}
use Rattle.rules.specs.SchemaTable.{member_in}
use Rattle.rules.specs.Readings.{Typed, typed, Mandatory, Branch, Reads, ReadsItems, ReadsFields}
use Rattle.rules.specs.Readings.Branch.{branch, no_branch}
use Rattle.rules.specs.Readings.Reads.{built_in, enum, struct, no_type, union, alternate, array}
use Rattle.rules.specs.Readings.ReadsItems.{no_item, one_item}
use Rattle.rules.specs.Readings.ReadsFields.{no_field, one_field}
use Rattle.rules.specs.Serving.ReadingOf.{TypeChoice, under, then, target, ended, built_in_or, rows_in, enum_has, chosen, members_at, mandatory_there, type_choice, plain_reading, items_reading, fields_reading, reading_of}
use Rattle.rules.specs.Serving.ReadingOf.TypeChoice.{direct, missing, alternative}
use Rattle.rules.proofs.Lists.{none-not-some, and_left, and_right, is_true, any_of_of, in_map, apart_injective}
use Rattle.rules.proofs.SoundFacts.{SoundFacts}
use Rattle.rules.proofs.Grid.{takes-below, grid-takes, takes-built_in, row_no_built_in}
use Rattle.rules.proofs.Lookups.{member-found, member-finds, branch-found, branch-finds, branch_missing, mandatory_true, mandatory_of, kind-found, kind-finds}
use Rattle.rules.proofs.ReadingParts.{plain-built_in, cond-some, under_some, then_some, append-some, found_some, choice_below, choice_row, choice_alternate, choice_of_kind, choice_alternative, enum_has_lem, enum-value, ObjectType, members-none, members-struct, members-union, members_say, reads-kind}
use Rattle.rules.proofs.ReadingParts.ObjectType.{a_struct, no_struct, a_union}

-- a reading by one rule, as the function gives it
module _ (passes : Bool) (S T : List ℕ) where
  -- at a type that is no alternate
  read_direct : (j : Json) (t f : ℕ) → type_choice S T (kind_of j) t f ≡ direct → reading_of passes S T j t f ≡ plain_reading passes S T j t f
  read_direct j t f e = rw e

  read-built_in : (j : Json) (t : ℕ) → built_in_takes t j ≡ true → reading_of passes S T j t 0 ≡ some (typed j t 0 ∷ [])
  read-built_in j t h =
      let k : takes t (kind_of j) ≡ true = grid-takes t j h in
      read_direct j t 0 (choice_below S T (kind_of j) t 0 (takes-below t (kind_of j) k)) ∙ plain-built_in passes S T j t 0 (takes-built_in t (kind_of j) k) ∙ rw h

  read-enum : (a e t r v : ℕ) (cs : List ℕ) → t ≡ first_row + r → kind T r ≡ enum_kind → Memᴰ v (children T r) → name_of S T v ≡ cs
      → reading_of passes S T (leaf a e (str cs)) t 0 ≡ some (typed (leaf a e (str cs)) t 0 ∷ [])
  read-enum a e t r v cs z q m n =
      let names : List (List ℕ) = names_of S T (children T r) in
      let i : any_of names cs ≡ true = any_of_of names cs (subst (λ x. Memᴰ x names) n (in_map (name_of S T) (children T r) v m)) in
      rw (choice_row S T string t 0 r z (omega arith), row_no_built_in t (omega arith), enum_has_lem S T t r cs z q, i)

  read-object : (a e t r : ℕ) (fs : Fields) (ms : List ℕ) (ts : List Typed) → t ≡ first_row + r → (kind T r ≡ alternate_kind → ⊥) → members_at S T t fs ≡ some ms
      → Mandatory S T ms fs → fields_reading passes S T fs ms ≡ some ts → reading_of passes S T (obj a e fs) t 0 ≡ some (typed (obj a e fs) t 0 ∷ ts)
  read-object a e t r fs ms ts z n g m h = rw (choice_row S T object t 0 r z n, row_no_built_in t (omega arith), g, mandatory_of S T ms fs m, h)

  read_none : (a e : ℕ) (fs : Fields) (ts : List Typed) → fields_reading passes S T fs [] ≡ some ts → reading_of passes S T (obj a e fs) 0 0 ≡ some (typed (obj a e fs) 0 0 ∷ ts)
  read_none a e fs ts h = rw (choice_below S T object 0 0 (omega arith), members-none S T fs, h)

  read-field : (a e m : ℕ) (key ms : List ℕ) (j : Json) (fs : Fields) (ts us : List Typed) → apart same (names_of S T ms) ≡ true
      → Memᴰ m ms → name_of S T m ≡ key → reading_of passes S T j (type_ref T m) (array_mark T m) ≡ some ts → fields_reading passes S T fs ms ≡ some us
      → fields_reading passes S T (field a e key j fs) ms ≡ some (ts ++ us)
  read-field a e m key ms j fs ts us d i n h g =
      let z : member_in S T key ms ≡ suc m = member-finds S T key ms m (λ y p w. apart_injective (name_of S T) ms d y m p i (w ∙ sym n)) i n in
      let y : suc m - 1 ≡ m = omega arith in
      rw (z, y, h, g)

module _ (passes : Bool) (S T : List ℕ) (F : SoundFacts S T) where
  -- the members of a union: those that the function finds, and no two of one name
  read-branch : (t r : ℕ) (fs : Fields) (ms bs : List ℕ) → t ≡ first_row + r → kind T r ≡ union_kind → members T chain_structs (union_base T r) ≡ some ms
      → Branch S T r fs bs → members_at S T t fs ≡ some (ms ++ bs)
  unfolding members
  read-branch t r fs ms bs z q g (branch {d} {b = b} {cs} p v m n h) =
      let y : discriminator T r - 1 ≡ d = omega arith in
      let o = branch-finds S T cs (children T r) b (λ y i w. apart_injective (name_of S T) (children T r) (F.children_apart r) y b i m (w ∙ sym n)) m n in
      members-union S T t r fs z q ∙ rw (g, y, v, o, h)
  read-branch t r fs ms bs z q g (no_branch {d} {cs = cs} p v n) =
      let y : discriminator T r - 1 ≡ d = omega arith in
      members-union S T t r fs z q ∙ rw (g, y, v, branch_missing S T cs (children T r) n)

  branch_apart : (r : ℕ) (fs : Fields) (ms bs : List ℕ) → kind T r ≡ union_kind → members T chain_structs (union_base T r) ≡ some ms
      → Branch S T r fs bs → apart same (names_of S T (ms ++ bs)) ≡ true
  branch_apart r fs ms bs q g (branch {b = b} p v m n h) = F.branch_apart r b ms bs q g m h
  branch_apart r fs ms bs q g (no_branch p v n) = rw (append-nil ms) (F.union_apart r ms q g)

  -- an alternate's alternative is the one of the value's kind
  read-alternate : (j : Json) (t r c : ℕ) (ts : List Typed) → t ≡ first_row + r → kind T r ≡ alternate_kind → Memᴰ c (children T r) → Reads passes S T j (type_ref T c) 0 ts
      → reading_of passes S T j (type_ref T c) 0 ≡ some ts → reading_of passes S T j t 0 ≡ some (typed j t 0 ∷ ts)
  read-alternate j t r c ts z q m h e =
      let k = F.has_kind r c q m in
      let y : type_kind T (type_ref T c) ≡ some (kind_of j) = k.1 ∙ ap some (reads-kind S T k.0 h k.1) in
      let o = kind-finds T (kind_of j) (children T r) c (λ x i w. F.one_of_kind r x c (kind_of j) q i m w y) m y in
      let p = sym (read_direct passes S T j (type_ref T c) 0 (choice_of_kind S T (kind_of j) (kind_of j) (type_ref T c) 0 y)) ∙ e in
      rw (choice_alternate S T (kind_of j) t r z q, o, p)

  pub complete : {j : Json} {t f : ℕ} {ts : List Typed} → Reads passes S T j t f ts → reading_of passes S T j t f ≡ some ts
  unfolding type_choice
  complete h =
      elim h as (λ j t f ts d. reading_of passes S T j t f ≡ some ts) (λ js t ts d. items_reading passes S T js t ≡ some ts)
      (λ ms fs ts d. apart same (names_of S T ms) ≡ true → fields_reading passes S T fs ms ≡ some ts) [
        | built_in {j} {t} h ↦ read-built_in passes S T j t h
        | enum {a} {e} {t} {v} {cs} r z k m n ↦ read-enum passes S T a e t r v cs z k m n
        | struct {a} {e} {t} {fs} {ms} {ts} r z k g n (h → ih) ↦
            read-object passes S T a e t r fs ms ts z (omega arith) (members-struct S T t r fs z k ∙ g) n (ih (F.struct_apart r ms k g))
        | no_type {a} {e} {fs} {ts} (h → ih) ↦ read_none passes S T a e fs ts (ih refl)
        | union {a} {e} {t} {fs} {ms} {bs} {ns} {ts} r z k g b p n (h → ih) ↦
            read-object passes S T a e t r fs ns ts z (omega arith) (read-branch t r fs ms bs z k g b ∙ ap some (sym p)) n (ih (rw p (branch_apart r fs ms bs k g b)))
        | alternate {j} {t} {c} {ts} r z k m (h → ih) ↦ read-alternate j t r c ts z k m h ih
        | array (h → ih) ↦ rw ih
        | no_item ↦ refl
        | one_item (h → ih) (g → ih') p ↦ rw (ih, ih', p)
        | no_field ↦ λ d. refl
        | one_field {a} {e} {m} {key} {ms} {j} {fs} {ts} {us} i n (h → ih) (g → ih') p ↦
            λ d. read-field passes S T a e m key ms j fs ts us d i n ih (ih' d) ∙ ap some (sym p)
      ]

  pub unique : {j : Json} {t f : ℕ} {ts us : List Typed} → Reads passes S T j t f ts → Reads passes S T j t f us → ts ≡ us
  unique h g = let x = complete h in let y = complete g in cc

-- a rule, from what the function gives
module _ (passes : Bool) (S T : List ℕ) where
  correct_enum : (a e t : ℕ) (v : Scalar) → enum_has S T t v ≡ true → Reads passes S T (leaf a e v) t 0 (typed (leaf a e v) t 0 ∷ [])
  correct_enum a e t v h =
      let i = enum-value S T t v h in
      let z : t ≡ first_row + (t - first_row) = omega (arith, i.to_row) in
      rw i.is_string (enum (t - first_row) z i.to_enum i.is_child i.is_name)

  correct_branch : (r d : ℕ) (fs : Fields) (bs : List ℕ) → discriminator T r ≡ suc d → chosen S T r (value_at (name_of S T d) fs) ≡ some bs → Branch S T r fs bs
  unfolding members
  correct_branch r d fs bs p h = go (value_at (name_of S T d) fs) refl h
    where
      go : (o : Option Json) → value_at (name_of S T d) fs ≡ o → chosen S T r o ≡ some bs → Branch S T r fs bs
      go none q h = absurd (none-not-some h)
      go (some (leaf a e null)) q h = absurd (none-not-some h)
      go (some (leaf a e (bool b))) q h = absurd (none-not-some h)
      go (some (leaf a e (num i token))) q h = absurd (none-not-some h)
      go (some (leaf a e (str cs))) q h =
          ⊎_elim (λ o. branch p q o.1 o.2 (ap (members T chain_structs) (sym o.3) ∙ h))
          (λ o. let z : [] ≡ bs = cc o.1 in subst (Branch S T r fs) z (no_branch p q o.0))
          (branch-found S T cs (children T r))
      go (some (arr a e js)) q h = absurd (none-not-some h)
      go (some (obj a e gs)) q h = absurd (none-not-some h)

  correct_object : (a e t : ℕ) (fs : Fields) (ms : List ℕ) (ts : List Typed) → SoundFacts S T → ObjectType S T t fs ms
      → Mandatory S T ms fs → ReadsFields passes S T ms fs ts → Reads passes S T (obj a e fs) t 0 (typed (obj a e fs) t 0 ∷ ts)
  correct_object a e t fs ms ts F (a_struct r z k h) n g = struct r z k h n g
  correct_object a e t fs ms ts F (no_struct z y) n g =
      let h : ReadsFields passes S T [] fs ts = subst (λ (l : List ℕ). ReadsFields passes S T l fs ts) y g in
      subst (λ (u : ℕ). Reads passes S T (obj a e fs) u 0 (typed (obj a e fs) u 0 ∷ ts)) (sym z) (no_type h)
  correct_object a e t fs ms ts F (a_union r z k h) n g =
      let d = F.discriminator_link r k in
      let y : discriminator T r - 1 ≡ d.0 = omega (arith, d.1) in
      let o = append-some (members T chain_structs (union_base T r)) (chosen S T r (value_at (name_of S T d.0) fs)) ms (rw y at h) in
      union r z k o.2 (correct_branch r d.0 fs o.1 d.1 o.3) o.4 n g

  -- the flag is the one that the rule has
  as_flag_lem : (n : ℕ) {j : Json} {t f : ℕ} {us ts : List Typed} → f ≡ n → Reads passes S T j t n (typed j t n ∷ us) → ts ≡ typed j t f ∷ us → Reads passes S T j t f ts
  as_flag_lem n {j} {t} {f} {us} {ts} z h e =
      subst₂ (λ (g : ℕ) (vs : List Typed). Reads passes S T j t g vs) (sym z) (ap (λ (g : ℕ). typed j t g ∷ us) (sym z) ∙ sym e) h

  correct_built_in : (j : Json) (t f : ℕ) (ts : List Typed) (other : Option (List Typed))
      → built_in_or j t f other ≡ some ts → (other ≡ some ts → Reads passes S T j t f ts) → Reads passes S T j t f ts
  correct_built_in j t f ts other h more = go (eqb f 0 && is_built_in t) refl h
    where
      go : (b : Bool) → eqb f 0 && is_built_in t ≡ b → cond b (cond (built_in_takes t j) (some (typed j t f ∷ [])) none) other ≡ some ts → Reads passes S T j t f ts
      go true p h =
          let c = cond-some (built_in_takes t j) (some (typed j t f ∷ [])) ts h in
          let o : ts ≡ typed j t f ∷ [] = cc c.1 in
          as_flag_lem 0 (eqb-true f 0 (and_left (eqb f 0) (is_built_in t) p)) (built_in c.0) o
      go false p h = more h

  correct_leaf : (a e : ℕ) (v : Scalar) (t f : ℕ) (ts : List Typed) → plain_reading passes S T (leaf a e v) t f ≡ some ts → Reads passes S T (leaf a e v) t f ts
  correct_leaf a e v t f ts h =
      correct_built_in (leaf a e v) t f ts (cond (eqb f 0 && enum_has S T t v) (some (typed (leaf a e v) t f ∷ [])) none) h (λ g.
      let c = cond-some (eqb f 0 && enum_has S T t v) (some (typed (leaf a e v) t f ∷ [])) ts g in
      let o : ts ≡ typed (leaf a e v) t f ∷ [] = cc c.1 in
      as_flag_lem 0 (eqb-true f 0 (and_left (eqb f 0) (enum_has S T t v) c.0))
      (correct_enum a e t v (and_right (eqb f 0) (enum_has S T t v) c.0)) o)

  correct_array : (a e : ℕ) (js : Items) (t f : ℕ) (ts : List Typed) → ((us : List Typed) → items_reading passes S T js t ≡ some us → ReadsItems passes S T js t us)
      → plain_reading passes S T (arr a e js) t f ≡ some ts → Reads passes S T (arr a e js) t f ts
  correct_array a e js t f ts items h =
      let x : Typed = typed (arr a e js) t f in
      correct_built_in (arr a e js) t f ts (cond (eqb f 1) (under x (items_reading passes S T js t)) none) h (λ g.
      let c = cond-some (eqb f 1) (under x (items_reading passes S T js t)) ts g in
      let o = under_some x (items_reading passes S T js t) ts c.1 in
      as_flag_lem 1 (eqb-true f 1 c.0) (array (items o.0 o.1)) o.2)

  correct_fields_in : (a e : ℕ) (fs : Fields) (t f : ℕ) (ts : List Typed) → SoundFacts S T
      → ((ms : List ℕ) (us : List Typed) → fields_reading passes S T fs ms ≡ some us → ReadsFields passes S T ms fs us)
      → plain_reading passes S T (obj a e fs) t f ≡ some ts → Reads passes S T (obj a e fs) t f ts
  correct_fields_in a e fs t f ts F fields h =
      let x : Typed = typed (obj a e fs) t f in
      let there : Bool = is (members_at S T t fs) (λ ms. mandatory_there S T ms fs) in
      let inside : Option (List Typed) = fields_reading passes S T fs (rows_in (members_at S T t fs)) in
      correct_built_in (obj a e fs) t f ts (cond (eqb f 0 && there) (under x inside) none) h (λ g.
      let c = cond-some (eqb f 0 && there) (under x inside) ts g in
      let m = is_true (members_at S T t fs) (λ ms. mandatory_there S T ms fs) (and_right (eqb f 0) there c.0) in
      let o = under_some x inside ts c.1 in
      let r : ReadsFields passes S T m.0 fs o.0 = fields m.0 o.0 (ap (λ ms. fields_reading passes S T fs (rows_in ms)) (sym m.1) ∙ o.1) in
      as_flag_lem 0 (eqb-true f 0 (and_left (eqb f 0) there c.0))
      (correct_object a e t fs m.0 o.0 F (members_say S T t fs m.0 m.1) (mandatory_true S T m.0 fs m.2) r) o.2)

  correct_field : (a e : ℕ) (key : List ℕ) (j : Json) (fs : Fields) (ms : List ℕ) (ts : List Typed)
      → ((t f : ℕ) (us : List Typed) → reading_of passes S T j t f ≡ some us → Reads passes S T j t f us)
      → ((us : List Typed) → fields_reading passes S T fs ms ≡ some us → ReadsFields passes S T ms fs us)
      → fields_reading passes S T (field a e key j fs) ms ≡ some ts → ReadsFields passes S T ms (field a e key j fs) ts
  correct_field a e key j fs ms ts value fields h =
      let n : ℕ = member_in S T key ms - 1 in
      let at : ℕ → Option (List Typed) = λ m. reading_of passes S T j (type_ref T m) (array_mark T m) in
      let l = found_some (member_in S T key ms) (then (at n) (fields_reading passes S T fs ms)) ts h in
      let i = member-found S T key ms l.0 l.1 in
      let y : n ≡ l.0 = omega (arith, l.1) in
      let o = then_some (at n) (fields_reading passes S T fs ms) ts l.2 in
      one_field i.0 i.1 (value (type_ref T l.0) (array_mark T l.0) o.0 (ap at (sym y) ∙ o.2)) (fields o.1 o.3) o.4

  -- by the type that the value is read by
  correct_choice : (j : Json) (t f : ℕ) (ts : List Typed) → ((u g : ℕ) (vs : List Typed) → plain_reading passes S T j u g ≡ some vs → Reads passes S T j u g vs)
      → reading_of passes S T j t f ≡ some ts → Reads passes S T j t f ts
  correct_choice j t f ts plain h = go (type_choice S T (kind_of j) t f) refl h
    where
      go : (v : TypeChoice) → type_choice S T (kind_of j) t f ≡ v → ended v (typed j t f) (plain_reading passes S T j (target v t) f) ≡ some ts → Reads passes S T j t f ts
      go direct e h = plain t f ts h
      go missing e h = absurd (none-not-some h)
      go (alternative u) e h =
          let a = choice_alternative S T (kind_of j) t f u e in
          let c = kind-found T (kind_of j) (children T (t - first_row)) u a.first_of in
          let o = under_some (typed j t f) (plain_reading passes S T j u f) ts h in
          let r = subst₂ (λ (w g : ℕ). Reads passes S T j w g o.0) (sym c.2) a.no_array (plain u f o.0 o.1) in
          as_flag_lem 0 a.no_array (alternate (t - first_row) a.to_row a.to_alternate c.1 r) o.2

module _ (passes : Bool) (S T : List ℕ) (F : SoundFacts S T) where
  mutual
    correct_plain : (j : Json) (t f : ℕ) (ts : List Typed) → plain_reading passes S T j t f ≡ some ts → Reads passes S T j t f ts
    correct_plain (leaf a e v) t f ts h = correct_leaf passes S T a e v t f ts h
    correct_plain (arr a e js) t f ts h = correct_array passes S T a e js t f ts (λ us g. correct_items js t us g) h
    correct_plain (obj a e fs) t f ts h = correct_fields_in passes S T a e fs t f ts F (λ ms us g. correct_fields fs ms us g) h

    correct_items : (js : Items) (t : ℕ) (ts : List Typed) → items_reading passes S T js t ≡ some ts → ReadsItems passes S T js t ts
    correct_items no_items t ts h = subst (ReadsItems passes S T no_items t) (let z : [] ≡ ts = cc in z) no_item
    correct_items (item j js) t ts h =
        let o = then_some (reading_of passes S T j t 0) (items_reading passes S T js t) ts h in
        one_item (correct_choice passes S T j t 0 o.0 (λ u g vs i. correct_plain j u g vs i) o.2) (correct_items js t o.1 o.3) o.4

    correct_fields : (fs : Fields) (ms : List ℕ) (ts : List Typed) → fields_reading passes S T fs ms ≡ some ts → ReadsFields passes S T ms fs ts
    correct_fields no_fields ms ts h = subst (ReadsFields passes S T ms no_fields) (let z : [] ≡ ts = cc in z) no_field
    correct_fields (field a e key j fs) ms ts h =
        correct_field passes S T a e key j fs ms ts (λ t f us g. correct_choice passes S T j t f us (λ u w vs i. correct_plain j u w vs i) g) (λ us g. correct_fields fs ms us g) h

  pub correct : (j : Json) (t f : ℕ) (ts : List Typed) → reading_of passes S T j t f ≡ some ts → Reads passes S T j t f ts
  correct j t f ts h = correct_choice passes S T j t f ts (correct_plain j) h

  pub exact : (j : Json) (t f : ℕ) (ts : List Typed) → Reads passes S T j t f ts ↔ (reading_of passes S T j t f ≡ some ts)
  exact j t f ts = (complete passes S T F, correct j t f ts)
