-- The table of an accepted schema is sound, so a message over it is never answered 21.
-- The idea: names stand within the bytes (NameSpans), rows are laid out as their entries say (CellLayout), number 7 makes references fit (SchemaLinks),
-- number 9 makes a discriminator a member of the union's base; the other rules stand in the answers as they stand in `sound`.
use Prim.Native.Nat.{ℕ, zero, suc, ◌+◌, ◌-◌, ◌*◌, ◌%◌, ◌≤◌, ◌<◌, zero-le}
use native.Mathlib.Decide.{dec_lt}
use native.Mathlib.Omega.{arith}
use mathlib.Core.Path.{◌≡◌, refl, sym, ap, ◌∙◌, subst}
use mathlib.Core.Logic.{⊎_elim}
use mathlib.Core.Bool.{Bool, true, ◌&&◌}
use mathlib.Core.List.Memᴰ
use mathlib.Core.List.{List, [], ◌++◌, Memᴰ}
use mathlib.Core.Option.{Option, none, some}
use lib.Dec.{eqb, ltb, leb}
use lib.ListN.{length, get_or, take, replicate}
use lib.Seq.{take_at}
use borrow.Author.Tests.{eqb-true, eq-eqb, le-leb, lt-ltb}
use Rattle.grammar.specs.Limits.{row_words, table_rows, schema_bytes, chain_structs}
use Rattle.grammar.specs.Notation.{all}
use Rattle.grammar.specs.Tree.{Items}
use Rattle.grammar.specs.SchemaText.{SchemaText}
use Rattle.rules.specs.Kinds.{struct_kind, member_kind, union_kind}
use Rattle.rules.specs.declared.SchemaRefusal.{SchemaRefusal}
use Rattle.rules.specs.declared.SchemaRefusal.TheVariants as R
use Rattle.rules.specs.declared.SchemaAnswer.TheVariants as SA
use Rattle.rules.specs.declared.MessageRefusal.{MessageRefusal}
use Rattle.rules.specs.declared.MessageRefusal.TheVariants as M
use Rattle.rules.specs.declared.MessageAnswer.TheVariants as MA
use Rattle.rules.specs.Definitions.{Name, Definition, definitions}
use Rattle.rules.specs.Rows.{up_from, row_count, kind, start, size, is_union, base, union_base, branch_count, discriminator, children, members, after}
use Rattle.rules.specs.Rows as Rows
use Rattle.rules.specs.Rules.{is, every_row, union_fits, discriminator_fits, branch_fits, good_names, distinct_names, good_chains, good_unions, good_alternates, good_returns}
use Rattle.rules.specs.SchemaTable.{struct_link, type_named, discriminator_link, table, all_refer}
use Rattle.rules.specs.Serving.RawTable.{EveryName, Spans}
use Rattle.rules.specs.Sound.{sound, laid_out, rest_zero, references_fit, to_struct}
use Rattle.rules.specs.SchemaAnswers.{Says, Breaks, SchemaApplies}
use Rattle.rules.specs.MessageAnswers.{message_order, MessageApplies, MessageOutcome}
use Rattle.rules.specs.MessageAnswers.MessageOutcome.{accepted, refused}
use Rattle.rules.specs.Serving.Answers.{schema_result, message_result}
use Rattle.rules.specs.Serving.Cells.{Entry, blank, entries, words_from, entry_name, owns, EntryNames}
use Rattle.rules.specs.Serving.Cells.Entry.{enum_row, alternate_row, value_row, struct_row, inline_row, member_row, union_row, branch_row, alternative_row, command_row}
use Rattle.rules.proofs.Lists.{clash, not-less, none-not-some, and_left, and_right, and_of, or_cases, all_of, any-true, is_true, up_from_bounds}
use Rattle.rules.proofs.TableRows.{fit-child, laid_fit}
use Rattle.rules.proofs.Cells.{table-words, length-words, entry_names, every-at, entries-follow, names_weaken}
use Rattle.rules.proofs.CellRows.{Behind, rows_are, start_is, size_is, kind-past, owns-is}
use Rattle.rules.proofs.CellLayout.{table-laid_out}
use Rattle.rules.proofs.SoundFacts.{StructLink, every_one, to_struct_lem, to-owned, base-refers}
use Rattle.rules.proofs.EntryLinks.{row_is, EntryLinked, DiscriminatorLinked, rest_zero_lem, references_fit_lem, union_base_lem}
use Rattle.rules.proofs.NameSpans.{names_within_lem}
use Rattle.rules.proofs.SchemaLinks.{entries-linked}
use Rattle.rules.proofs.Refusals.{first-has}
use Rattle.rules.proofs.MessageOutcome.{true_of, message-outcome}
use Rattle.rules.proofs.Room.{whole-rows, accepted-table}

-- the name of an entry stands within the schema; an inline struct's takes no byte
name-within : (S : List ℕ) (e : Entry) → EntryNames (Spans S) e → (entry_name e).start + (entry_name e).size ≤ length S
name-within S (enum_row n c) k = k.within
name-within S (value_row n) k = k.within
name-within S (struct_row n b c) k = k.0.within
name-within S (inline_row c) k = omega arith
name-within S (member_row m) k = k.0.within
name-within S (union_row n b d c) k = k.0.within
name-within S (branch_row p) k = k.0.within
name-within S (alternate_row n c) k = k.within
name-within S (alternative_row p) k = k.0.within
name-within S (command_row n a t oob) k = k.0.within

every_of : (T : List ℕ) (f : ℕ → Bool) → ((r : ℕ) → r < row_count T → f r ≡ true) → every_row T f ≡ true
every_of T f h = all_of f (up_from 0 (row_count T)) (λ r m. h r (omega (arith, (up_from_bounds (row_count T) 0 r m).1)))

module _ (S : List ℕ) (ds : List Definition) (spans : EveryName (Spans S) ds) (refer : all_refer S ds ≡ true) where
  abbrev f : Name → ℕ
  f = struct_link S ds

  abbrev g : Name → ℕ
  g = type_named S ds

  abbrev h : ℕ → Name → ℕ
  h = discriminator_link S ds

  abbrev T : List ℕ
  T = words_from f g h 0 (entries ds)

  behind : EveryName Behind ds
  behind = names_weaken (λ n s. s.behind) ds spans

  rows : row_count T ≡ length (entries ds)
  rows = rows_are f g h (entries ds)

  -- row r of T is that of entry r
  module _ (r : ℕ) (l : r < length (entries ds)) where
    abbrev entry : Entry
    entry = get_or (entries ds) r blank

    within : leb (start T r + size T r) (length S) ≡ true
    within =
        le-leb (start T r + size T r) (length S)
        (omega (arith, start_is f g h (entries ds) r l, size_is f g h (entries ds) r l, name-within S entry (every-at (EntryNames (Spans S)) blank (entries ds) (entry_names (Spans S) ds spans) r l)))

    linked : EntryLinked T f g entry
    linked = every-at (EntryLinked T f g) blank (entries ds) (entries-linked S ds behind h refer) r l

    owner : Rows.owns T r ≡ owns entry
    owner = owns-is f g h (entries ds) (entry_names Behind ds behind) (entries-follow ds blank refl) r l

    zeros : rest_zero T r ≡ true
    zeros = rest_zero_lem T f g h r entry (row_is f g h (entries ds) r l)

    fits : DiscriminatorLinked T f g h r → references_fit T r ≡ true
    fits = references_fit_lem T f g h r entry (row_is f g h (entries ds) r l) linked owner

    base_of : kind T r ≡ union_kind → StructLink T (union_base T r)
    base_of k =
        ⊎_elim (to-owned T r) (to_struct_lem T (union_base T r))
        (or_cases (Rows.owns T r) (to_struct T (union_base T r)) (union_base_lem T f g h r entry (row_is f g h (entries ds) r l) linked owner k))

  -- a row of some kind is one of the table's
  there : (r k : ℕ) → kind T r ≡ suc k → r < length (entries ds)
  there r k e = elim (dec_lt r (length (entries ds))) [ yes y ↦ y | no y ↦ absurd (let z = kind-past f g h (entries ds) r (omega arith) in omega arith) ]

  laid : laid_out T (row_count T) 0 ≡ true
  laid = subst (λ (W : List ℕ). laid_out W (row_count W) 0 ≡ true) (table-words f g h 0 ds) (table-laid_out f g h ds behind)

  -- what a struct has, inherited or its own, are members
  own-members : (r c : ℕ) → kind T r ≡ struct_kind → Memᴰ c (children T r) → kind T c ≡ member_kind
  own-members r c k m =
      let l = there r 2 k in
      fit-child T r (laid_fit T (row_count T) 0 laid r zero-le (omega (arith, rows))) c m ∙ ap suc k

  all-members : (n l : ℕ) → StructLink T l → (ms : List ℕ) → members T n l ≡ some ms → (m : ℕ) → Memᴰ m ms → kind T m ≡ member_kind
  unfolding members
  all-members zero zero s ms p m i = let z : ms ≡ [] = cc in elim (subst (Memᴰ m) z i) [ ]
  all-members zero (suc r) s ms p m i = none-not-some p
  all-members (suc n) zero s ms p m i = let z : ms ≡ [] = cc in elim (subst (Memᴰ m) z i) [ ]
  all-members (suc n) (suc r) s ms p m i = go (members T n (base T r)) refl p (all-members n (base T r) inherited)
    where
      struct : kind T r ≡ struct_kind
      struct = s r refl

      inherited : StructLink T (base T r)
      inherited = base-refers T r (fits r (there r 2 struct) (λ k. absurd (omega (arith, struct)))) struct

      go : (o : Option (List ℕ)) → members T n (base T r) ≡ o → after o (children T r) ≡ some ms
          → ((xs : List ℕ) → members T n (base T r) ≡ some xs → (x : ℕ) → Memᴰ x xs → kind T x ≡ member_kind) → kind T m ≡ member_kind
      go none q t more = none-not-some t
      go (some xs) q t more =
          let z : ms ≡ xs ++ children T r = cc in
          ⊎_elim (more xs q m) (own-members r m struct) (Memᴰ.append_cases xs (subst (Memᴰ m) z i))

  -- number 9: a union's discriminator is a member of its base
  discriminator-linked : good_unions S T ≡ true → (r : ℕ) → DiscriminatorLinked T f g h r
  unfolding good_unions
  discriminator-linked good r k =
      let l = there r 4 k in
      let u : union_fits S T r ≡ true = every_one T (is_union T) (union_fits S T) good r (omega (arith, rows)) (eq-eqb (kind T r) union_kind k) in
      let fit : List ℕ → Bool = λ ms. discriminator_fits T r ms && all (branch_fits S T r ms) (children T r) in
      let o = is_true (members T chain_structs (union_base T r)) fit (and_right (ltb 0 (branch_count T r)) (is (members T chain_structs (union_base T r)) fit) u) in
      let ms = o.0 in
      let d : discriminator_fits T r ms ≡ true = and_left (discriminator_fits T r ms) (all (branch_fits S T r ms) (children T r)) o.2 in
      let a = any-true (λ m. eqb (discriminator T r) (suc m)) ms (search (and_left, and_right)) in
      let m = a.0 in
      let q : discriminator T r ≡ suc m = eqb-true (discriminator T r) (suc m) a.2 in
      let y : kind T m ≡ member_kind = all-members chain_structs (union_base T r) (base_of r l k) ms o.1 m a.1 in
      let z : discriminator T r - 1 ≡ m = omega arith in
      and_of (ltb 0 (discriminator T r)) (eqb (kind T (discriminator T r - 1)) member_kind) (lt-ltb 0 (discriminator T r) (omega arith)) (rw z (eq-eqb (kind T m) member_kind y))

  whole : length T % row_words ≡ 0
  whole = let z = length-words f g h 0 (entries ds) in omega arith

  -- with the rules that stand in the answers as they stand in `sound`
  sound_rows : length S ≤ schema_bytes → row_count T ≤ table_rows → good_names S T ≡ true → distinct_names S T ≡ true → good_chains S T ≡ true → good_unions S T ≡ true
      → good_alternates S T ≡ true → good_returns S T ≡ true → sound S T ≡ true
  unfolding sound
  sound_rows short few names apart chains unions alternates returns =
      let a : eqb (length T % row_words) 0 ≡ true = eq-eqb (length T % row_words) 0 whole in
      let b : leb (row_count T) table_rows ≡ true = le-leb (row_count T) table_rows few in
      let c : leb (length S) schema_bytes ≡ true = le-leb (length S) schema_bytes short in
      let d : every_row T (λ r. leb (start T r + size T r) (length S)) ≡ true = every_of T (λ r. leb (start T r + size T r) (length S)) (λ r l. within r (omega (arith, rows))) in
      let k : every_row T (λ r. rest_zero T r && references_fit T r) ≡ true =
      every_of T (λ r. rest_zero T r && references_fit T r)
      (λ r l. let m : r < length (entries ds) = omega (arith, rows) in and_of (rest_zero T r) (references_fit T r) (zeros r m) (fits r m (discriminator-linked unions r))) in
      rw (a, b, c, d, laid, k, names, apart, chains, unions, alternates, returns)

-- where no number refuses what the schema says, its table is sound
unrefused-sound : (S : List ℕ) (room : ℕ) (ds : List Definition) → Says S ds → ((x : SchemaRefusal) → SchemaApplies x S room → ⊥) → sound S (table S ds) ≡ true
unfolding table
unrefused-sound S room ds s none-applies =
    let keeps : (rule : List ℕ → List ℕ → Bool) → (Breaks rule S → ⊥) → rule S (table S ds) ≡ true = λ rule k. true_of (rule S (table S ds)) (λ e. k (ds, s, e)) in
    subst
    (λ (W : List ℕ).
    length S ≤ schema_bytes → row_count W ≤ table_rows → good_names S W ≡ true → distinct_names S W ≡ true → good_chains S W ≡ true → good_unions S W ≡ true
    → good_alternates S W ≡ true → good_returns S W ≡ true → sound S W ≡ true)
    (sym (table-words (struct_link S ds) (type_named S ds) (discriminator_link S ds) 0 ds))
    (sound_rows S ds (names_within_lem S s.objects ds s.is_text s.keeps_keys)
    (true_of (all_refer S ds) (λ e. none-applies R.UnknownName (ds, s, e))))
    (not-less (none-applies R.TooLong)) (not-less (λ l. none-applies R.TooManyRows (ds, s, l))) (keeps good_names (none-applies R.BadName)) (keeps distinct_names (none-applies R.RepeatedName))
    (keeps good_chains (none-applies R.BadChain)) (keeps good_unions (none-applies R.BadUnion)) (keeps good_alternates (none-applies R.BadAlternate)) (keeps good_returns (none-applies R.BadReturn))

-- Reference, Sound tables: the table of an accepted schema is sound
pub accepted-sound : (S : List ℕ) (room n : ℕ) → (schema_result S room).answer ≡ SA.Accepted n
    → (js : Items) × (ds : List Definition) × SchemaText S js × (definitions js ≡ some ds) × (n ≡ row_count (table S ds)) × (sound S (table S ds) ≡ true)
accepted-sound S room n e =
    let z = accepted-table S room n e in
    let s = z.said in
    (s.objects, z.definitions, s.is_text, s.keeps_keys, z.rows, unrefused-sound S room z.definitions s z.unrefused)

-- so are the rows counted, taken from the lent words
pub accepted-rows : (S : List ℕ) (room n : ℕ) → (schema_result S room).answer ≡ SA.Accepted n → sound S (take (row_words * n) (schema_result S room).words) ≡ true
accepted-rows S room n e =
    let z = accepted-table S room n e in
    let W = table S z.definitions in
    let k : length W ≡ row_words * n = omega (arith, z.rows, whole-rows S z.definitions) in
    rw (z.written, take_at W (replicate (room - length W) 0) (row_words * n) k) (unrefused-sound S room z.definitions z.said z.unrefused)

-- Reference, Message answers 21: never over the rows of an accepted schema
pub never-unsound : (S : List ℕ) (room n : ℕ) → (schema_result S room).answer ≡ SA.Accepted n → (m : List ℕ) (lent p : ℕ)
    → (message_result S (take (row_words * n) (schema_result S room).words) m lent).answer ≡ MA.Refused M.UnsoundTable p → ⊥
never-unsound S room n e m lent p q = go (message-outcome S W m lent)
  where
    W : List ℕ
    W = take (row_words * n) (schema_result S room).words

    go : MessageOutcome S W m lent (message_result S W m lent).answer (message_result S W m lent).words → ⊥
    go (accepted h g k p w) = let z : ◌≡◌ {A = ℕ} 0 1 = cc in omega arith
    go (refused {x} h l p w) = let z : x ≡ M.UnsoundTable = cc in clash (accepted-rows S room n e) (subst (λ (y : MessageRefusal). MessageApplies y S W m lent) z (first-has (λ y. MessageApplies y S W m lent) message_order h))
