-- The rows of definitions are the words of their entries, row for row: words, lengths, names, and which entry owns an inline struct.
-- The idea: each law goes by the list of definitions, and inside a definition by its kind.
use Prim.Native.Nat.{ℕ, zero, suc, ◌+◌, ◌*◌, ◌<◌}
use mathlib.Core.Path.{◌≡◌, refl, sym, ap, ◌∙◌}
use mathlib.Core.Bool.{false}
use mathlib.Core.List.{List, [], ◌∷◌, ◌++◌, map, append_assoc}
use mathlib.Core.Option.{Option, none, some}
use native.Mathlib.Nat.{add-zero}
use native.Mathlib.Omega.{arith}
use lib.ListN.{length, get_or, length-append, get_or-append}
use lib.Seq.{get_or-append-add}
use Rattle.grammar.specs.Limits.{row_words}
use Rattle.rules.specs.Values.{◌>>=◌}
use Rattle.rules.specs.Definitions.{Name, Member, Data, Pair, Body, Definition}
use Rattle.rules.specs.Definitions.Data.{inline, named}
use Rattle.rules.specs.Definitions.Body.{enum, struct, union, alternate, command}
use Rattle.rules.specs.SchemaTable.{inline_members, inline_rows, rows_taken, row, concat, inline_struct, rows_of, table_from}
use Rattle.rules.specs.Serving.RawTable.{Every, IfThere, TypeNames, MemberNames, PairNames, DataNames, BodyNames, EveryName}
use Rattle.rules.specs.Serving.Cells.{Entry, blank, inline_entries, own_entry, child_entries, entries, words_of, words_from, entry_kind, entry_name, is_inline_row, owns, is_inline, EntryNames}
use Rattle.rules.specs.Serving.Cells.Entry.{enum_row, alternate_row, value_row, struct_row, inline_row, member_row, union_row, branch_row, alternative_row, command_row}

-- as many entries as rows
pub length-map : {A B : Type 0} (f : A → B) (xs : List A) → length (map f xs) ≡ length xs
length-map f [] = refl
length-map f (x ∷ xs) = ap suc (length-map f xs)

length-inline : (o : Option (List Member)) → length (inline_entries o) ≡ inline_rows o
length-inline none = refl
length-inline (some ms) = ap suc (length-map member_row ms)

pub length-children : (b : Body) → suc (length (child_entries b)) ≡ rows_taken b
length-children (enum vs) = ap suc (length-map value_row vs)
length-children (struct b ms) = ap suc (length-map member_row ms)
length-children (union b discriminator bs) = ap suc (length-append (inline_entries (inline_members b)) (map branch_row bs) ∙ rw (length-inline (inline_members b), length-map branch_row bs))
length-children (alternate alts) = ap suc (length-map alternative_row alts)
length-children (command a t oob) = ap suc (length-inline (a >>= inline_members))

module _ (f g : Name → ℕ) (h : ℕ → Name → ℕ) where
  -- entries after entries
  pub words_append : (r : ℕ) (xs ys : List Entry) → words_from f g h r (xs ++ ys) ≡ words_from f g h r xs ++ words_from f g h (r + length xs) ys
  unfolding words_from
  words_append r [] ys = rw (add-zero r)
  words_append r (x ∷ xs) ys =
      let k : suc r + length xs ≡ r + suc (length xs) = omega arith in
      ap (λ l. words_of f g h r x ++ l) (words_append (suc r) xs ys ∙ rw k) ∙ sym (append_assoc (words_of f g h r x) (words_from f g h (suc r) xs) (words_from f g h (r + length (x ∷ xs)) ys))

  -- children, whose words don't depend on their row
  words-children : {A : Type 0} (c : A → Entry) (w : A → List ℕ) → ((r : ℕ) (x : A) → words_of f g h r (c x) ≡ w x) → (r : ℕ) (xs : List A)
      → concat (map w xs) ≡ words_from f g h r (map c xs)
  unfolding words_from
  words-children c w e r [] = refl
  words-children c w e r (x ∷ xs) = rw (e r x, words-children c w e (suc r) xs)

  words-inline : (r : ℕ) (o : Option (List Member)) → inline_struct g o ≡ words_from f g h r (inline_entries o)
  unfolding words_from
  words-inline r none = refl
  words-inline r (some ms) = rw (words-children member_row (λ m. words_of f g h 0 (member_row m)) (λ _ _. refl) (suc r) ms)

  words_definition : (r : ℕ) (n : Name) (b : Body) → rows_of f g h r n b ≡ words_from f g h r (own_entry n b ∷ child_entries b)
  unfolding words_from
  words_definition r n (enum vs) = rw (words-children value_row (λ v. words_of f g h 0 (value_row v)) (λ _ _. refl) (suc r) vs)
  words_definition r n (struct b ms) = rw (words-children member_row (λ m. words_of f g h 0 (member_row m)) (λ _ _. refl) (suc r) ms)
  words_definition r n (union b discriminator bs) =
      rw (
        words_append (suc r) (inline_entries (inline_members b)) (map branch_row bs),
        words-inline (suc r) (inline_members b),
        words-children branch_row (λ p. words_of f g h 0 (branch_row p)) (λ _ _. refl) (suc r + length (inline_entries (inline_members b))) bs,
      )
  words_definition r n (alternate alts) = rw (words-children alternative_row (λ p. words_of f g h 0 (alternative_row p)) (λ _ _. refl) (suc r) alts)
  words_definition r n (command a t oob) = rw (words-inline (suc r) (a >>= inline_members))

  -- the table is the words of the entries
  pub table-words : (r : ℕ) (ds : List Definition) → table_from f g h r ds ≡ words_from f g h r (entries ds)
  unfolding entries words_from
  table-words r [] = refl
  table-words r (d ∷ ds) =
      let own : List Entry = own_entry d.name d.body ∷ child_entries d.body in
      ap (λ l. rows_of f g h r d.name d.body ++ l) (ap (λ k. table_from f g h (r + k) ds) (sym (length-children d.body)) ∙ table-words (r + length own) ds)
      ∙ ap (λ l. l ++ words_from f g h (r + length own) (entries ds)) (words_definition r d.name d.body)
      ∙ sym (words_append r own (entries ds))

  -- the words of an entry: kind and name, then four that depend on its kind
  pub entry-words : (r : ℕ) (e : Entry)
      → words_of f g h r e ≡ row (entry_kind e) (entry_name e) (get_or (words_of f g h r e) 3 0) (get_or (words_of f g h r e) 4 0) (get_or (words_of f g h r e) 5 0) (get_or (words_of f g h r e) 6 0)
  entry-words r (enum_row n c) = refl
  entry-words r (alternate_row n c) = refl
  entry-words r (value_row n) = refl
  entry-words r (struct_row n b c) = refl
  entry-words r (inline_row c) = refl
  entry-words r (member_row m) = refl
  entry-words r (union_row n b discriminator c) = refl
  entry-words r (branch_row p) = refl
  entry-words r (alternative_row p) = refl
  entry-words r (command_row n a t oob) = refl

  pub length-entry : (r : ℕ) (e : Entry) → length (words_of f g h r e) ≡ row_words
  length-entry r e = ap length (entry-words r e)

  pub length-words : (r : ℕ) (es : List Entry) → length (words_from f g h r es) ≡ row_words * length es
  unfolding words_from
  length-words r [] = refl
  length-words r (e ∷ es) =
      let k : length (words_of f g h r e) ≡ row_words = length-entry r e in
      let n : length (words_from f g h (suc r) es) ≡ row_words * length es = length-words (suc r) es in
      length-append (words_of f g h r e) (words_from f g h (suc r) es) ∙ omega arith

  -- word i of row j, both counted from 0
  pub word_at : (r : ℕ) (es : List Entry) (j i : ℕ) → j < length es → i < row_words
      → get_or (words_from f g h r es) (row_words * j + i) 0 ≡ get_or (words_of f g h (r + j) (get_or es j blank)) i 0
  unfolding words_from
  word_at r [] j i l k = absurd (omega arith)
  word_at r (e ∷ es) zero i l k =
      let n : length (words_of f g h r e) ≡ row_words = length-entry r e in
      let z : i < length (words_of f g h r e) = omega arith in
      let y : row_words * 0 + i ≡ i = omega arith in
      rw (y, add-zero r) (get_or-append (words_of f g h r e) (words_from f g h (suc r) es) 0 i z)
  word_at r (e ∷ es) (suc j) i l k =
      let n : length (words_of f g h r e) ≡ row_words = length-entry r e in
      let y : row_words * suc j + i ≡ length (words_of f g h r e) + (row_words * j + i) = omega arith in
      let z : suc r + j ≡ r + suc j = omega arith in
      ap (λ k. get_or (words_of f g h r e ++ words_from f g h (suc r) es) k 0) y
      ∙ get_or-append-add (words_of f g h r e) (words_from f g h (suc r) es) (row_words * j + i) 0
      ∙ word_at (suc r) es j i (omega arith) k ∙ rw z

-- names of entries
pub every_append : {A : Type 0} (Q : A → Type 0) (xs ys : List A) → Every Q xs → Every Q ys → Every Q (xs ++ ys)
every_append Q [] ys p q = q
every_append Q (x ∷ xs) ys p q = (p.0, every_append Q xs ys p.1 q)

pub every_map : {A B : Type 0} (c : A → B) (P : A → Type 0) (Q : B → Type 0) → ((x : A) → P x → Q (c x)) → (xs : List A) → Every P xs → Every Q (map c xs)
every_map c P Q k [] p = tt
every_map c P Q k (x ∷ xs) p = (k x p.0, every_map c P Q k xs p.1)

pub every-is : {A B : Type 0} (c : A → B) (Q : B → Type 0) → ((x : A) → Q (c x)) → (xs : List A) → Every Q (map c xs)
every-is c Q k [] = tt
every-is c Q k (x ∷ xs) = (k x, every-is c Q k xs)

every_imply : {A : Type 0} (P Q : A → Type 0) → ((x : A) → P x → Q x) → (xs : List A) → Every P xs → Every Q xs
every_imply P Q k [] p = tt
every_imply P Q k (x ∷ xs) p = (k x p.0, every_imply P Q k xs p.1)

pub if_imply : {A : Type 0} (P Q : A → Type 0) → ((x : A) → P x → Q x) → (o : Option A) → IfThere P o → IfThere Q o
if_imply P Q k none p = tt
if_imply P Q k (some x) p = k x p

module _ (P : Name → Type 0) where
  inline_names : (b : Data) → DataNames P b → Every (EntryNames P) (inline_entries (inline_members b))
  inline_names (inline ms) p = (tt, every_map member_row (MemberNames P) (EntryNames P) (λ m q. q) ms p)
  inline_names (named n) p = tt

  own_names : (n : Name) (b : Body) → P n → BodyNames P b → EntryNames P (own_entry n b)
  own_names n (enum vs) p q = p
  own_names n (struct b ms) p q = (p, q.0)
  own_names n (union b discriminator bs) p q = (p, q.0, q.1)
  own_names n (alternate alts) p q = p
  own_names n (command a t oob) p q = (p, q.0, q.1)

  child_names : (b : Body) → BodyNames P b → Every (EntryNames P) (child_entries b)
  child_names (enum vs) q = every_map value_row P (EntryNames P) (λ v p. p) vs q
  child_names (struct b ms) q = every_map member_row (MemberNames P) (EntryNames P) (λ m p. p) ms q.1
  child_names (union b discriminator bs) q =
      every_append (EntryNames P) (inline_entries (inline_members b)) (map branch_row bs) (inline_names b q.0) (every_map branch_row (PairNames P) (EntryNames P) (λ m p. p) bs q.2)
  child_names (alternate alts) q = every_map alternative_row (PairNames P) (EntryNames P) (λ m p. p) alts q
  child_names (command none t oob) q = tt
  child_names (command (some a) t oob) q = inline_names a q.0

  pub entry_names : (ds : List Definition) → EveryName P ds → Every (EntryNames P) (entries ds)
  unfolding entries
  entry_names [] p = tt
  entry_names (d ∷ ds) p =
      every_append (EntryNames P) (own_entry d.name d.body ∷ child_entries d.body) (entries ds)
      (own_names d.name d.body p.0.0 p.0.1, child_names d.body p.0.1) (entry_names ds p.1)

-- names that have one property have another that it gives
module _ {P Q : Name → Type 0} (k : (n : Name) → P n → Q n) where
  members_weaken : (ms : List Member) → Every (MemberNames P) ms → Every (MemberNames Q) ms
  members_weaken = every_imply (MemberNames P) (MemberNames Q) (λ m p. (k m.name p.0, k m.type.name p.1))

  pairs_weaken : (ps : List Pair) → Every (PairNames P) ps → Every (PairNames Q) ps
  pairs_weaken = every_imply (PairNames P) (PairNames Q) (λ p q. (k p.name q.0, k p.type q.1))

  data_weaken : (b : Data) → DataNames P b → DataNames Q b
  data_weaken (inline ms) p = members_weaken ms p
  data_weaken (named n) p = k n p

  body_weaken : (b : Body) → BodyNames P b → BodyNames Q b
  body_weaken (enum vs) p = every_imply P Q k vs p
  body_weaken (struct b ms) p = (if_imply P Q k b p.0, members_weaken ms p.1)
  body_weaken (union b discriminator bs) p = (data_weaken b p.0, k discriminator p.1, pairs_weaken bs p.2)
  body_weaken (alternate alts) p = pairs_weaken alts p
  body_weaken (command a t oob) p = (if_imply (DataNames P) (DataNames Q) data_weaken a p.0, if_imply (TypeNames P) (TypeNames Q) (λ x. k x.name) t p.1)

  pub names_weaken : (ds : List Definition) → EveryName P ds → EveryName Q ds
  names_weaken =
      every_imply (λ (d : Definition). P d.name × BodyNames P d.body) (λ (d : Definition). Q d.name × BodyNames Q d.body)
      (λ d p. (k d.name p.0, body_weaken d.body p.1))

pub every-at : {A : Type 0} (Q : A → Type 0) (d : A) (xs : List A) → Every Q xs → (j : ℕ) → j < length xs → Q (get_or xs j d)
every-at Q d [] p j h = absurd (omega arith)
every-at Q d (x ∷ xs) p zero h = p.0
every-at Q d (x ∷ xs) p (suc j) h = every-at Q d xs p.1 j (omega arith)

-- an entry is an inline struct exactly where the one before it owns it
abbrev pub Follow : Entry → List Entry → Type 0
Follow p [] = owns p ≡ false
Follow p (e ∷ es) = (is_inline_row e ≡ owns p) × Follow e es

-- entries that neither own nor are inline structs
module _ {A : Type 0} (c : A → Entry) (plain : (x : A) → (is_inline_row (c x) ≡ false) × (owns (c x) ≡ false)) where
  follow-map : (p : Entry) (xs : List A) (es : List Entry) → owns p ≡ false → ((q : Entry) → owns q ≡ false → Follow q es) → Follow p (map c xs ++ es)
  follow-map p [] es o k = k p o
  follow-map p (x ∷ xs) es o k = ((plain x).0 ∙ sym o, follow-map (c x) xs es (plain x).1 k)

-- what may stand after any entry that owns none
abbrev Begins : List Entry → Type 0
Begins es = (q : Entry) → owns q ≡ false → Follow q es

follow-inline : (p : Entry) (i : Option (List Member)) (es : List Entry) → owns p ≡ is_inline i → Begins es → Follow p (inline_entries i ++ es)
follow-inline p none es o k = k p o
follow-inline p (some ms) es o k = (sym o, follow-map member_row (λ _. (refl, refl)) (inline_row (length ms)) ms es refl k)

follow-body : (n : Name) (b : Body) (es : List Entry) → Begins es → Follow (own_entry n b) (child_entries b ++ es)
follow-body n (enum vs) es k = follow-map value_row (λ _. (refl, refl)) (enum_row n (length vs)) vs es refl k
follow-body n (struct b ms) es k = follow-map member_row (λ _. (refl, refl)) (struct_row n b (length ms)) ms es refl k
follow-body n (union b discriminator bs) es k =
    rw (append_assoc (inline_entries (inline_members b)) (map branch_row bs) es)
    (follow-inline (union_row n b discriminator (length bs)) (inline_members b) (map branch_row bs ++ es) refl (λ q o. follow-map branch_row (λ _. (refl, refl)) q bs es o k))
follow-body n (alternate alts) es k = follow-map alternative_row (λ _. (refl, refl)) (alternate_row n (length alts)) alts es refl k
follow-body n (command a t oob) es k = follow-inline (command_row n a t oob) (a >>= inline_members) es refl k

own-plain : (n : Name) (b : Body) → is_inline_row (own_entry n b) ≡ false
own-plain n (enum vs) = refl
own-plain n (struct b ms) = refl
own-plain n (union b discriminator bs) = refl
own-plain n (alternate alts) = refl
own-plain n (command a t oob) = refl

pub entries-follow : (ds : List Definition) (p : Entry) → owns p ≡ false → Follow p (entries ds)
unfolding entries
entries-follow [] p o = o
entries-follow (d ∷ ds) p o = (own-plain d.name d.body ∙ sym o, follow-body d.name d.body (entries ds) (entries-follow ds))

-- by places: the entry after entry j is an inline struct exactly when entry j owns one
pub follow-at : (p : Entry) (es : List Entry) → Follow p es → (j : ℕ) → suc j < length es → is_inline_row (get_or es (suc j) blank) ≡ owns (get_or es j blank)
follow-at p [] k j h = absurd (omega arith)
follow-at p (e ∷ []) k j h = absurd (omega arith)
follow-at p (e ∷ x ∷ es) k zero h = k.1.0
follow-at p (e ∷ x ∷ es) k (suc j) h = follow-at e (x ∷ es) k.1 j (omega arith)

pub follow-last : (p : Entry) (es : List Entry) → Follow p es → (j : ℕ) → suc j ≡ length es → owns (get_or es j blank) ≡ false
follow-last p [] k j h = absurd (omega arith)
follow-last p (e ∷ []) k zero h = k.1
follow-last p (e ∷ []) k (suc j) h = absurd (omega arith)
follow-last p (e ∷ x ∷ es) k zero h = absurd (omega arith)
follow-last p (e ∷ x ∷ es) k (suc j) h = follow-last e (x ∷ es) k.1 j (omega arith)
