-- A row that counts the children behind it, and the inline struct of a base or of data.
use Prim.Native.Nat.{ℕ, ◌+◌, ◌-◌, ◌*◌}
use native.Mathlib.Omega.{arith}
use mathlib.Core.Path.{◌≡◌, refl, ap, ◌∙◌, subst}
use mathlib.Core.Bool.{Bool, true, false, cond}
use mathlib.Core.List.{List, [], ◌∷◌, map}
use mathlib.Core.Option.{Option, none, some}
use lib.Dec.{eqb}
use lib.ListN.{length, get_or, set, length-append, length-map, length-set}
use Rattle.grammar.specs.Limits.{row_words}
use Rattle.grammar.specs.Tree.{Json}
use Rattle.grammar.proofs.Booleans.{none-not-some, some_is}
use Rattle.text.specs.Nodes.{node_kind}
use Rattle.lookups.specs.Lookups.{string_kind}
use Rattle.rules.specs.Kinds.{value_kind, struct_kind, member_kind}
use Rattle.rules.specs.Definitions.{Member, Data, as_names, as_members, as_pairs, as_data, must, may}
use Rattle.rules.specs.Definitions.Data.{inline}
use Rattle.rules.specs.Values.{◌>>=◌}
use Rattle.rules.specs.SchemaTable.{concat}
use Rattle.std.specs.Prelude.{Some, None, Result, Ok, Err}
use Rattle.std.specs.Prelude as Std
use Rattle.definitions.specs.declared.writing.NotDefinitions.{NotDefinitions}
use Rattle.definitions.specs.Places.{Found}
use Rattle.definitions.specs.Written.{RowPut, RowsAre, PutsRows}
use Rattle.definitions.specs.Parts.{value_row, member_row, pair_row, child_rows, ChildrenAt, count_word, counted_rows, CountedAt, inline_words, InlineAt}
use Rattle.definitions.proofs.Options.{came_of, none_of}
use Rattle.definitions.proofs.Stores.{put-none, put_under, came, failed}
use Rattle.definitions.proofs.NameLaws.{is_name, no_string}
use Rattle.definitions.proofs.ShapeLaws.{held-there}

-- every child is a whole row
module _ {A : Type 0} (f : A → List ℕ) (wide : (x : A) → length (f x) ≡ row_words) where
  pub all-wide : (l : List A) → length (concat (map f l)) ≡ row_words * length (map f l)
  all-wide [] = refl
  all-wide (x ∷ l) = omega (arith, length-append (f x) (concat (map f l)), wide x, all-wide l)

  wide_of : (x : Option (List A)) {rs : List (List ℕ)} → (x >>= λ l. some (map f l)) ≡ some rs → length (concat rs) ≡ row_words * length rs
  wide_of none e = none-not-some e
  wide_of (some l) e = subst (λ (rs : List (List ℕ)). length (concat rs) ≡ row_words * length rs) (some_is e) (all-wide l)

rows-wide : (kind : ℕ) (j : Json) {rs : List (List ℕ)} → child_rows kind j ≡ some rs → length (concat rs) ≡ row_words * length rs
rows-wide kind j {rs} = go (eqb kind value_kind) (eqb kind member_kind)
  where
    go : (a b : Bool)
        → cond a (as_names j >>= λ vs. some (map value_row vs)) (cond b (as_members j >>= λ ms. some (map member_row ms)) (as_pairs j >>= λ ps. some (map (pair_row kind) ps))) ≡ some rs
        → length (concat rs) ≡ row_words * length rs
    go true b e = wide_of value_row (λ x. refl) (as_names j) e
    go false true e = wide_of member_row (λ x. refl) (as_members j) e
    go false false e = wide_of (pair_row kind) (λ x. refl) (as_pairs j) e

must-wide : (kind : ℕ) (o : Option Json) {rs : List (List ℕ)} → must (child_rows kind) o ≡ some rs → length (concat rs) ≡ row_words * length rs
must-wide kind none e = none-not-some e
must-wide kind (some j) e = rows-wide kind j e

-- children that were put, and how many there are
pub record ChildrenPut (kind : ℕ) (o : Option Json) (old new : List ℕ) (n m : ℕ) : Type 0 where
  pub rs : List (List ℕ)
  pub are : must (child_rows kind) o ≡ some rs
  pub count : m - n ≡ length rs
  pub size : row_words * m ≡ row_words * n + length (concat rs)
  pub put : RowPut old new n (concat rs)

module _ {s w : List ℕ} {kind : ℕ} {k : Std.Option ℕ} {old new : List ℕ} {n most : ℕ} {r : Result ℕ NotDefinitions} (h : PutsRows (ChildrenAt s w kind k) old new n most r) {o : Option Json} (f : Found s w o k) where
  children : ChildrenAt s w kind k (must (child_rows kind) o >>= λ rs. some (concat rs))
  children = record { value = o; found = f; are = refl }

  pub children-put : {m : ℕ} → r ≡ Ok m → ChildrenPut kind o old new n m
  children-put {m} e =
      let c = came h e (must (child_rows kind) o >>= λ rs. some (concat rs)) children in
      let u = came_of concat (must (child_rows kind) o) c.are in
      let l : length (concat u.0) ≡ row_words * length u.0 = must-wide kind o u.1 in
      let x : length c.xs ≡ length (concat u.0) = ap length u.2 in
      record {
        rs = u.0;
        are = u.1;
        count = omega (arith, c.size);
        size = omega (arith, c.size);
        put = subst (λ (xs : List ℕ). RowPut old new n xs) u.2 c.put;
      }

  pub children-none : {bad : NotDefinitions} → r ≡ Err bad → must (child_rows kind) o ≡ none
  children-none e = none_of concat (must (child_rows kind) o) (failed h e (must (child_rows kind) o >>= λ rs. some (concat rs)) children)

module _ {s w own : List ℕ} {k : Std.Option ℕ} {old mid : List ℕ} {first most : ℕ} {r : Result ℕ NotDefinitions} (h : PutsRows (ChildrenAt s w (get_or own 0 0 + 1) k) old mid first most r) where
  pub counted-refused : {bad : NotDefinitions} → r ≡ Err bad → (o : Option (List ℕ)) → CountedAt s w own k o → o ≡ none
  counted-refused e o v = v.are ∙ rw (children-none h v.found e)

  pub counted-put : {new : List ℕ} {n m count : ℕ} → length own ≡ row_words → r ≡ Ok m → first ≡ n + 1 → count ≡ m - first → RowPut mid new n (set own count_word count)
      → (o : Option (List ℕ)) → CountedAt s w own k o → RowsAre o old new n m
  counted-put {new} {n} {m} {count} l e f g q o v =
      let c = children-put h v.found e in
      let y : RowPut mid new n (set own count_word (length c.rs)) = subst (λ (i : ℕ). RowPut mid new n (set own count_word i)) (g ∙ c.count) q in
      let z : length (set own count_word (length c.rs)) ≡ row_words = length-set own count_word (length c.rs) ∙ l in
      record {
        xs = counted_rows own c.rs;
        are = v.are ∙ rw c.are;
        size = omega (arith, c.size, z, length-append (set own count_word (length c.rs)) (concat c.rs));
        put = put_under (omega arith) c.put y;
      }

pub nothing_put : {P : Option (List ℕ) → Type 0} {old : List ℕ} {n most : ℕ} → ((o : Option (List ℕ)) → P o → o ≡ some []) → PutsRows P old old n most (Ok n)
nothing_put {old = old} {n} f =
    record { same_length = refl; few = (omega arith, omega arith); told = λ o p. record { xs = []; are = f o p; size = omega arith; put = put-none old n } }

-- a body that is a row and its children
module _ {A : Type 0} (f : A → List ℕ) (own : List ℕ) (rows : List A → List ℕ) (same : (l : List A) → rows l ≡ counted_rows own (map f l)) where
  pub counted_rows_lem : (x : Option (List A)) → (x >>= λ l. some (rows l)) ≡ ((x >>= λ l. some (map f l)) >>= λ rs. some (counted_rows own rs))
  counted_rows_lem none = refl
  counted_rows_lem (some l) = ap some (same l)

-- the row of an inline struct, but for its count
abbrev pub inline_row : List ℕ
inline_row = struct_kind ∷ 0 ∷ 0 ∷ 0 ∷ 0 ∷ 0 ∷ 0 ∷ 0 ∷ []

-- members written out
inline_rows_lem : (x : Option (List Member))
    → (((x >>= λ ms. some (inline ms)) >>= λ d. some (some d)) >>= λ d. some (inline_words d)) ≡ ((x >>= λ ms. some (map member_row ms)) >>= λ rs. some (counted_rows inline_row rs))
inline_rows_lem none = refl
inline_rows_lem (some ms) = rw (length-map ms member_row)

module _ {s w : List ℕ} {data_at : Std.Option ℕ} where
  pub inline-absent : data_at ≡ None → (o : Option (List ℕ)) → InlineAt s w data_at o → o ≡ some []
  inline-absent e o v = go v.value (subst (Found s w v.value) e v.found) v.are
    where
      go : (x : Option Json) → Found s w x None → o ≡ (may as_data x >>= λ d. some (inline_words d)) → o ≡ some []
      go none f q = q
      go (some j) f q = absurd f.found

  module _ {k : ℕ} {t : Bool} (z : data_at ≡ Some k) (e : t ≡ string_kind (node_kind w k)) where
    pub inline-name : t ≡ true → (o : Option (List ℕ)) → InlineAt s w data_at o → o ≡ some []
    inline-name y o v = go v.value (subst (Found s w v.value) z v.found) v.are
      where
        go : (x : Option Json) → Found s w x (Some k) → o ≡ (may as_data x >>= λ d. some (inline_words d)) → o ≡ some []
        go none f q = absurd f.found
        go (some j) f q = let u = is_name (held-there f) e y in q ∙ rw u.kind

    pub inline_members_lem : t ≡ false → (o : Option (List ℕ)) → InlineAt s w data_at o → CountedAt s w inline_row data_at o
    inline_members_lem y o v = record { value = v.value; found = v.found; are = go v.value (subst (Found s w v.value) z v.found) v.are }
      where
        go : (x : Option Json) → Found s w x (Some k) → o ≡ (may as_data x >>= λ d. some (inline_words d)) → o ≡ (must (child_rows member_kind) x >>= λ rs. some (counted_rows inline_row rs))
        go none f q = absurd f.found
        go (some j) f q =
            q ∙ rw (no_string (held-there f) e y) (inline_rows_lem (as_members j))

-- an inline struct that was put
pub record InlinePut (o : Option Json) (old new : List ℕ) (n m : ℕ) : Type 0 where
  pub data_is : Option Data
  pub are : may as_data o ≡ some data_is
  pub size : row_words * m ≡ row_words * n + length (inline_words data_is)
  pub put : RowPut old new n (inline_words data_is)

module _ {s w : List ℕ} {k : Std.Option ℕ} {old new : List ℕ} {n most : ℕ} {r : Result ℕ NotDefinitions} (h : PutsRows (InlineAt s w k) old new n most r) {o : Option Json} (f : Found s w o k) where
  inside : InlineAt s w k (may as_data o >>= λ d. some (inline_words d))
  inside = record { value = o; found = f; are = refl }

  pub inline-put : {m : ℕ} → r ≡ Ok m → InlinePut o old new n m
  inline-put e =
      let c = came h e (may as_data o >>= λ d. some (inline_words d)) inside in
      let u = came_of inline_words (may as_data o) c.are in
      record { data_is = u.0; are = u.1; size = c.size ∙ ap (λ (xs : List ℕ). row_words * n + length xs) u.2; put = subst (λ (xs : List ℕ). RowPut old new n xs) u.2 c.put }

  pub inline-none : {bad : NotDefinitions} → r ≡ Err bad → may as_data o ≡ none
  inline-none e = none_of inline_words (may as_data o) (failed h e (may as_data o >>= λ d. some (inline_words d)) inside)
