-- Definitions in the table of a schema: their rows in order, and that a name is found among them as it is among the definitions.
-- The idea: a definition's own entry is the only one of its entries that is a definition.
use Prim.Native.Nat.{ℕ, suc, ◌+◌, ◌<◌}
use mathlib.Core.Path.{◌≡◌, refl, sym, ap, ◌∙◌}
use mathlib.Core.Bool.{Bool, true, false, cond}
use mathlib.Core.List.Memᴰ
use mathlib.Core.List.{List, [], ◌∷◌, ◌++◌, map, Memᴰ}
use mathlib.Core.Option.{Option, none, some}
use mathlib.Core.Logic.{⊎_elim}
use native.Mathlib.Nat.{add-zero}
use native.Mathlib.Omega.{arith}
use lib.ListN.{length, get_or}
use Rattle.rules.specs.Names.{same_name}
use Rattle.rules.specs.Values.{◌>>=◌}
use Rattle.rules.specs.Definitions.{Name, Member, Body, Definition}
use Rattle.rules.specs.Definitions.Body.{enum, struct, union, alternate, command}
use Rattle.rules.specs.SchemaTable.{inline_members, rows_taken, row_kind, table_from, bytes_of, find_from}
use Rattle.rules.specs.Serving.RawTable.{Every, EveryName}
use Rattle.rules.specs.Rows.{up_from, row_count, kind, name_of}
use Rattle.rules.specs.Rules.{those, is_definition}
use Rattle.rules.specs.Serving.Cells.{Entry, blank, inline_entries, own_entry, child_entries, entries, words_from, entry_kind, entry_name, is_own, first_link, is_named}
use Rattle.rules.specs.Serving.Cells.Entry.{value_row, member_row, branch_row, alternative_row}
use Rattle.rules.proofs.Lists.{and_left, and_right, up_from_bounds}
use Rattle.rules.proofs.Cells.{length-children, table-words, every_append, every-is, entry_names}
use Rattle.rules.proofs.CellRows.{Behind, rows_are, kind-is, name-is, definition_is}
use Rattle.rules.proofs.CellLayout.{Stands, stands-whole, stands-head, stands_right}

-- the rows of definitions that begin at row r
abbrev pub starts : ℕ → List Definition → List ℕ
starts r [] = []
starts r (d ∷ ds) = r ∷ starts (r + rows_taken d.body) ds

abbrev pub own_from : ℕ → List Entry → List ℕ
own_from r [] = []
own_from r (e ∷ es) = cond (is_own e) (r ∷ own_from (suc r) es) (own_from (suc r) es)

pub Child : Entry → Type 0
Child e = is_own e ≡ false

inline-children : (i : Option (List Member)) → Every Child (inline_entries i)
unfolding Child
inline-children none = tt
inline-children (some ms) = (refl, every-is member_row Child (λ _. refl) ms)

pub all-children : (b : Body) → Every Child (child_entries b)
unfolding Child
all-children (enum vs) = every-is value_row Child (λ _. refl) vs
all-children (struct b ms) = every-is member_row Child (λ _. refl) ms
all-children (union b discriminator bs) = every_append Child (inline_entries (inline_members b)) (map branch_row bs) (inline-children (inline_members b)) (every-is branch_row Child (λ _. refl) bs)
all-children (alternate alts) = every-is alternative_row Child (λ _. refl) alts
all-children (command a t oob) = inline-children (a >>= inline_members)

own-none : (xs : List Entry) → Every Child xs → (r : ℕ) (es : List Entry) → own_from r (xs ++ es) ≡ own_from (r + length xs) es
unfolding Child
own-none [] e r es = rw (add-zero r)
own-none (x ∷ xs) e r es = let z : suc r + length xs ≡ r + suc (length xs) = omega arith in rw e.0 (own-none xs e.1 (suc r) es ∙ rw z)

own_entry_lem : (n : Name) (b : Body) → (is_own (own_entry n b) ≡ true) × (entry_kind (own_entry n b) ≡ row_kind b) × (entry_name (own_entry n b) ≡ n)
own_entry_lem n (enum vs) = (refl, refl, refl)
own_entry_lem n (struct b ms) = (refl, refl, refl)
own_entry_lem n (union b discriminator bs) = (refl, refl, refl)
own_entry_lem n (alternate alts) = (refl, refl, refl)
own_entry_lem n (command a t oob) = (refl, refl, refl)

pub own-starts : (ds : List Definition) (r : ℕ) → own_from r (entries ds) ≡ starts r ds
unfolding entries
own-starts [] r = refl
own-starts (d ∷ ds) r =
    let k : suc (length (child_entries d.body)) ≡ rows_taken d.body = length-children d.body in
    let z : suc r + length (child_entries d.body) ≡ r + rows_taken d.body = omega arith in
    rw (own_entry_lem d.name d.body).0
    (ap (λ l. r ∷ l) (own-none (child_entries d.body) (all-children d.body) (suc r) (entries ds) ∙ rw z (own-starts ds (r + rows_taken d.body))))

-- rows by what stands at them
those-own : (f : ℕ → Bool) (es : List Entry) (r : ℕ) → ((j : ℕ) → j < length es → f (r + j) ≡ is_own (get_or es j blank)) → those f (up_from r (length es)) ≡ own_from r es
those-own f [] r e = refl
those-own f (x ∷ es) r e =
    let z : f r ≡ is_own x = ap f (sym (add-zero r)) ∙ e 0 (omega arith) in
    rw (z, those-own f es (suc r) (λ j l. let y : suc r + j ≡ r + suc j = omega arith in rw y (e (suc j) (omega arith))))

-- a link found is that of a row of the list which passes the test
pub link_in : (f : ℕ → Bool) (rs : List ℕ) (r : ℕ) → first_link f rs ≡ suc r → Memᴰ r rs × (f r ≡ true)
link_in f [] r e = absurd (omega arith)
link_in f (x ∷ rs) r e = go (f x) refl e (link_in f rs r)
  where
    go : (b : Bool) → f x ≡ b → cond b (suc x) (first_link f rs) ≡ suc r → (first_link f rs ≡ suc r → Memᴰ r rs × (f r ≡ true)) → Memᴰ r (x ∷ rs) × (f r ≡ true)
    go true p q k = let z : r ≡ x = omega arith in (Memᴰ.head z, rw z p)
    go false p q k = let u = k q in (Memᴰ.tail u.0, u.1)

of_those : {A : Type 0} (f : A → Bool) (xs : List A) (x : A) → Memᴰ x (those f xs) → Memᴰ x xs × (f x ≡ true)
of_those f [] x m = elim m [ ]
of_those f (y ∷ xs) x m = go (f y) refl m (of_those f xs x)
  where
    go : (b : Bool) → f y ≡ b → Memᴰ x (cond b (y ∷ those f xs) (those f xs)) → (Memᴰ x (those f xs) → Memᴰ x xs × (f x ≡ true)) → Memᴰ x (y ∷ xs) × (f x ≡ true)
    go true p m k = ⊎_elim (λ (e : x ≡ y). (Memᴰ.head e, rw e p)) (λ i. let u = k i in (Memᴰ.tail u.0, u.1)) (Memᴰ.cases_cons m)
    go false p m k = let u = k m in (Memᴰ.tail u.0, u.1)

module _ (S : List ℕ) (f g : Name → ℕ) (h : ℕ → Name → ℕ) (es : List Entry) where
  -- a definition that stands at row r has its kind and its name there
  own_row : (n : Name) (b : Body) (r : ℕ) (xs : List Entry) → Stands es r (own_entry n b ∷ xs)
      → (kind (words_from f g h 0 es) r ≡ row_kind b) × (name_of S (words_from f g h 0 es) r ≡ bytes_of S n)
  own_row n b r xs s =
      let p = stands-head s in
      let o = own_entry_lem n b in
      (kind-is f g h es r p.0 ∙ ap entry_kind p.1 ∙ o.1, name-is f g h es r p.0 S ∙ ap (λ e. bytes_of S (entry_name e)) p.1 ∙ ap (bytes_of S) o.2)

  find-rows : (fits : ℕ → Bool) (x : List ℕ) (ys : List Definition) (r : ℕ) → Stands es r (entries ys)
      → find_from S (λ b. fits (row_kind b)) x r ys ≡ first_link (is_named S (words_from f g h 0 es) fits x) (starts r ys)
  unfolding entries
  find-rows fits x [] r s = refl
  find-rows fits x (d ∷ ys) r s =
      let own : List Entry = own_entry d.name d.body ∷ child_entries d.body in
      let o = own_row d.name d.body r (child_entries d.body ++ entries ys) s in
      let k : length own ≡ rows_taken d.body = length-children d.body in
      rw (o.0, o.1, find-rows fits x ys (r + rows_taken d.body) (rw (← k) (stands_right own (entries ys) s)))

-- the table of definitions whose names stand behind something, whatever their references become
module _ (f g : Name → ℕ) (h : ℕ → Name → ℕ) (ds : List Definition) (p : EveryName Behind ds) where
  abbrev T : List ℕ
  T = table_from f g h 0 ds

  pub definition_rows_lem : those (is_definition T) (up_from 0 (row_count T)) ≡ starts 0 ds
  definition_rows_lem =
      rw (table-words f g h 0 ds, rows_are f g h (entries ds))
      (those-own (is_definition (words_from f g h 0 (entries ds))) (entries ds) 0
      (λ j l. let z : 0 + j ≡ j = omega arith in rw z (definition_is f g h (entries ds) (entry_names Behind ds p) j l))
      ∙ own-starts ds 0)

  -- what a name finds among the definitions it finds among their rows
  pub find-is : (S : List ℕ) (fits : ℕ → Bool) (x : List ℕ)
      → find_from S (λ b. fits (row_kind b)) x 0 ds ≡ first_link (is_named S T fits x) (those (is_definition T) (up_from 0 (row_count T)))
  find-is S fits x = rw (definition_rows_lem, table-words f g h 0 ds) (find-rows S f g h (entries ds) fits x ds 0 (stands-whole (entries ds)))

  -- a link found is to a definition that fits
  pub find-found : (S : List ℕ) (fits : ℕ → Bool) (x : List ℕ) (r : ℕ) → find_from S (λ b. fits (row_kind b)) x 0 ds ≡ suc r
      → (r < row_count T) × (is_definition T r ≡ true) × (fits (kind T r) ≡ true) × (same_name x (name_of S T r) ≡ true)
  find-found S fits x r e =
      let u = link_in (is_named S T fits x) (those (is_definition T) (up_from 0 (row_count T))) r (sym (find-is S fits x) ∙ e) in
      let v = of_those (is_definition T) (up_from 0 (row_count T)) r u.0 in
      let b = up_from_bounds (row_count T) 0 r v.0 in
      (omega (arith, b.1), v.1, and_left (fits (kind T r)) (same_name x (name_of S T r)) u.1, and_right (fits (kind T r)) (same_name x (name_of S T r)) u.1)
