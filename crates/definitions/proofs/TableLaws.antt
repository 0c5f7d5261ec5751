-- The definitions of a schema in turn: those passed are put, those left decide the rest.
-- A definition takes as many rows as its body says, and never more than it has nodes.
use Prim.Native.Nat.{ℕ, ◌+◌, ◌*◌, ◌≤◌, ◌<◌}
use native.Mathlib.Omega.{arith}
use mathlib.Core.Path.{◌≡◌, refl, sym, ap, ◌∙◌, subst}
use mathlib.Core.Bool.{true}
use mathlib.Core.List.{List, [], ◌∷◌, ◌++◌, map, append-nil}
use mathlib.Core.Option.{Option, none, some}
use lib.ListN.{length, take, drop, length-append, length-map}
use lib.Seq.{sets-eq, take-append_seam}
use Rattle.grammar.specs.Limits.{row_words}
use Rattle.grammar.specs.Tree.{Json, Items}
use Rattle.grammar.specs.Tree.Json.{leaf, arr, obj}
use Rattle.grammar.specs.Tree.Items.{no_items, item}
use Rattle.grammar.specs.Keys.{keys_once, keys_once_i}
use Rattle.grammar.specs.Serving.Machine.Schema.{schema}
use Rattle.grammar.proofs.Booleans.{both, none-not-some}
use Rattle.text.specs.Nodes.{next, Holds, HoldsItems}
use Rattle.text.proofs.KeyLaws.{goes_on}
use Rattle.rules.specs.Kinds.{union_kind, branch_kind, alternative_kind}
use Rattle.rules.specs.Definitions.{Name, Member, Body, Definition, as_definition, definitions}
use Rattle.rules.specs.Definitions.Body.{enum, struct, union, alternate, command}
use Rattle.rules.specs.Values.{◌>>=◌, as_fields}
use Rattle.rules.specs.SchemaTable.{inline_members, row, concat, data_link, inline_rows, inline_struct, rows_taken}
use Rattle.rules.specs.Serving.RawTable.{packed, raw_from}
use Rattle.std.specs.Prelude.{Result, Ok, Err, IsErr}
use Rattle.definitions.specs.declared.writing.NotDefinitions.{NotDefinitions}
use Rattle.definitions.specs.Places.{Held}
use Rattle.definitions.specs.Written.{RowPut, RowsAre, PutsRows}
use Rattle.definitions.specs.Parts.{value_row, member_row, pair_row, body_rows, rows_at, DefinitionAt}
use Rattle.definitions.specs.Puts.{RowsPut, Fit, PutsDefinitions}
use Rattle.definitions.proofs.Options.{came_of, none_of}
use Rattle.definitions.proofs.Stores.{put-none, put-after, came, failed}
use Rattle.definitions.proofs.ListLaws.{ahead, ahead_none, ahead_more}
use Rattle.definitions.proofs.CountLaws.{all-wide}
use Rattle.definitions.proofs.TreeSizes.{size, value-ends, rows_few}

-- a definition's rows are as many as its body says
list-wide : {A : Type 0} (f : A → List ℕ) → ((x : A) → length (f x) ≡ row_words) → (l : List A) → length (concat (map f l)) ≡ row_words * length l
list-wide f h l = all-wide f h l ∙ ap (λ (i : ℕ). row_words * i) (length-map l f)

inline-wide : (i : Option (List Member)) → length (inline_struct packed i) ≡ row_words * inline_rows i
inline-wide none = refl
inline-wide (some ms) = omega (arith, list-wide member_row (λ x. refl) ms)

body-wide : (n : ℕ) (name : Name) (b : Body) → length (body_rows n name b) ≡ row_words * rows_taken b
body-wide n name (enum vs) = omega (arith, list-wide value_row (λ x. refl) vs)
body-wide n name (struct d ms) = omega (arith, list-wide member_row (λ x. refl) ms)
body-wide n name (union d discriminator ps) =
    let r = row union_kind name (data_link packed n d) (length ps) (packed discriminator) 0 in
    let i = inline_struct packed (inline_members d) in
    omega (arith, length-append (r ++ i) (concat (map (pair_row branch_kind) ps)), length-append r i, inline-wide (inline_members d), list-wide (pair_row branch_kind) (λ x. refl) ps)
body-wide n name (alternate ps) = omega (arith, list-wide (pair_row alternative_kind) (λ x. refl) ps)
body-wide n name (command d t oob) = omega (arith, inline-wide (d >>= inline_members))

-- the rows of the definitions of top-level values, from row n on
abbrev rows_of_definitions : ℕ → Items → Option (List ℕ)
rows_of_definitions n js = definitions js >>= λ ds. some (raw_from n ds)

rows_none : (n : ℕ) → rows_of_definitions n no_items ≡ some []
unfolding definitions raw_from
rows_none n = refl

-- the first definition's, and those after it
rows-first : (n : ℕ) (j : Json) (js : Items)
    → rows_of_definitions n (item j js) ≡ (as_fields j >>= as_definition >>= λ d. ahead (body_rows n d.name d.body) (rows_of_definitions (n + rows_taken d.body) js))
unfolding definitions raw_from
rows-first n j js = go (as_fields j >>= as_definition)
  where
    next_of : (d : Definition) (x : Option (List Definition)) → ((x >>= λ ds. some (d ∷ ds)) >>= λ ds. some (raw_from n ds))
        ≡ ahead (body_rows n d.name d.body) (x >>= λ ds. some (raw_from (n + rows_taken d.body) ds))
    next_of d none = refl
    next_of d (some ds) = refl

    go : (x : Option Definition) → ((x >>= λ d. definitions js >>= λ ds. some (d ∷ ds)) >>= λ ds. some (raw_from n ds))
        ≡ (x >>= λ d. ahead (body_rows n d.name d.body) (rows_of_definitions (n + rows_taken d.body) js))
    go none = refl
    go (some d) = next_of d (definitions js)

few_rows : (j : Json) {d : Definition} → (as_fields j >>= as_definition) ≡ some d → rows_taken d.body ≤ size j
few_rows (leaf a e v) h = none-not-some h
few_rows (arr a e js) h = none-not-some h
few_rows (obj a e fs) h = rows_few fs h

-- the definitions passed are put in rows below n; the values from node k on are left
pub record DefinitionsPassed (s w old now : List ℕ) (count k n : ℕ) (js : Items) (l : ℕ) : Type 0 where
  pub xs : List ℕ
  pub rest : Items
  pub is : rows_of_definitions 0 js ≡ ahead xs (rows_of_definitions n rest)
  pub size : row_words * n ≡ length xs
  pub put : RowPut old now 0 xs
  pub holds : HoldsItems schema s w rest l k count
  pub once : keys_once_i rest ≡ true

pub record DefinitionsLeft (s w old now : List ℕ) (count k n : ℕ) : Type 0 where
  pub same_length : length now ≡ length old
  pub few : n ≤ k
  pub passed : (js : Items) (l : ℕ) → Fit s js → HoldsItems schema s w js l 0 count → DefinitionsPassed s w old now count k n js l

pub definitions_begin : (s w old : List ℕ) (count : ℕ) → DefinitionsLeft s w old old count 0 0
definitions_begin s w old count =
    record {
      same_length = refl;
      few = omega arith;
      passed = λ js l z h. record { xs = []; rest = js; is = ahead_none (rows_of_definitions 0 js); size = refl; put = put-none old 0; holds = h; once = z.once };
    }

-- the first value that is left
record FirstValue (s w : List ℕ) (count k l : ℕ) (js : Items) : Type 0 where
  pub value : Json
  pub rest : Items
  pub is : js ≡ item value rest
  pub here : Holds schema s w value l k
  pub after : HoldsItems schema s w rest l (next w k) count
  pub once : keys_once value ≡ true
  pub rest_once : keys_once_i rest ≡ true

first-value : (s w : List ℕ) (count k l : ℕ) (js : Items) → k < count → HoldsItems schema s w js l k count → keys_once_i js ≡ true → FirstValue s w count k l js
first-value s w count k l no_items h x o = absurd (omega (arith, x))
first-value s w count k l (item j js) h x o =
    let p = both (keys_once j) (keys_once_i js) o in record { value = j; rest = js; is = refl; here = x.1; after = x.2; once = p.0; rest_once = p.1 }

module _ {s w old now : List ℕ} {count k n : ℕ} (v : DefinitionsLeft s w old now count k n) where
  module _ {new : List ℕ} {most : ℕ} {r : Result ℕ NotDefinitions} (h : k < count) (g : PutsRows (DefinitionAt s w k n) now new n most r) where
    -- the definition that was put, and how many rows it took
    module _ {m : ℕ} (t : r ≡ Ok m) (j : Json) (u : Held s w j k) (o : keys_once j ≡ true) where
      here : RowsAre (as_fields j >>= as_definition >>= rows_at n) now new n m
      here = came g t (as_fields j >>= as_definition >>= rows_at n) (record { value = j; held = u; once = o; are = refl })

      definition : (d : Definition) × ((as_fields j >>= as_definition) ≡ some d) × (here.xs ≡ body_rows n d.name d.body)
      definition = came_of (λ (d : Definition). body_rows n d.name d.body) (as_fields j >>= as_definition) here.are

      taken : m ≡ n + rows_taken definition.0.body
      taken = let d = definition in omega (arith, here.size, ap length d.2, body-wide n d.0.name d.0.body)

    pub definitions-on : {m i : ℕ} → r ≡ Ok m → i ≡ next w k → m ≤ i → DefinitionsLeft s w old new count i m
    definitions-on {m} {i} t e o =
        record {
          same_length = g.same_length ∙ v.same_length;
          few = o;
          passed = λ js l z x.
              let p = v.passed js l z x in
              let f = first-value s w count k l p.rest h p.holds p.once in
              let u : Held s w f.value k = record { small = z.small; level = l; holds = f.here } in
              let c = here t f.value u f.once in
              let d = definition t f.value u f.once in
              let q : rows_of_definitions n p.rest ≡ ahead c.xs (rows_of_definitions m f.rest) =
              ap (rows_of_definitions n) f.is ∙ rows-first n f.value f.rest
              ∙ ap (λ (a : Option Definition). a >>= λ b. ahead (body_rows n b.name b.body) (rows_of_definitions (n + rows_taken b.body) f.rest)) d.1
              ∙ ap (λ (a : List ℕ). ahead a (rows_of_definitions (n + rows_taken d.0.body) f.rest)) (sym d.2)
              ∙ ap (λ (a : ℕ). ahead c.xs (rows_of_definitions a f.rest)) (sym (taken t f.value u f.once)) in
              record {
                xs = p.xs ++ c.xs;
                rest = f.rest;
                is = p.is ∙ ap (ahead p.xs) q ∙ ahead_more p.xs c.xs (rows_of_definitions m f.rest);
                size = omega (arith, p.size, c.size, length-append p.xs c.xs);
                put = let a : row_words * n ≡ row_words * 0 + length p.xs = omega (arith, p.size) in put-after a p.put c.put;
                holds = subst (λ (a : ℕ). HoldsItems schema s w f.rest l a count) (sym e) f.after;
                once = f.rest_once;
              };
        }

    pub definitions_fail : {bad : NotDefinitions} → r ≡ Err bad → (js : Items) (l : ℕ) → Fit s js → HoldsItems schema s w js l 0 count → definitions js ≡ none
    definitions_fail t js l z x =
        let p = v.passed js l z x in
        let f = first-value s w count k l p.rest h p.holds p.once in
        let u : Held s w f.value k = record { small = z.small; level = l; holds = f.here } in
        let a = failed g t (as_fields f.value >>= as_definition >>= rows_at n) (record { value = f.value; held = u; once = f.once; are = refl }) in
        let b = none_of (λ (d : Definition). body_rows n d.name d.body) (as_fields f.value >>= as_definition) a in
        let q : rows_of_definitions n p.rest ≡ none =
        ap (rows_of_definitions n) f.is ∙ rows-first n f.value f.rest
        ∙ ap (λ (a : Option Definition). a >>= λ b. ahead (body_rows n b.name b.body) (rows_of_definitions (n + rows_taken b.body) f.rest)) b in
        none_of (raw_from 0) (definitions js) (p.is ∙ ap (ahead p.xs) q)

    -- the next node lies behind, and is no less than the rows
    pub definitions_stuck : {i : ℕ} → i ≡ next w k → i ≤ k → (js : Items) (l : ℕ) → Fit s js → HoldsItems schema s w js l 0 count → definitions js ≡ none
    definitions_stuck e o js l z x =
        let p = v.passed js l z x in
        let f = first-value s w count k l p.rest h p.holds p.once in
        absurd (omega (arith, goes_on schema s w f.value l k f.here))

    pub definitions-over : {m i : ℕ} → r ≡ Ok m → i ≡ next w k → i < m → (js : Items) (l : ℕ) → Fit s js → HoldsItems schema s w js l 0 count → definitions js ≡ none
    definitions-over t e o js l z x =
        let p = v.passed js l z x in
        let f = first-value s w count k l p.rest h p.holds p.once in
        let u : Held s w f.value k = record { small = z.small; level = l; holds = f.here } in
        let d = definition t f.value u f.once in
        absurd (omega (arith, taken t f.value u f.once, few_rows f.value d.1, value-ends s w f.value l k f.here, v.few))

  pub definitions-all : count ≤ k → (js : Items) (l : ℕ) → Fit s js → HoldsItems schema s w js l 0 count → RowsPut old now js count n
  definitions-all o js l z x =
      let p = v.passed js l z x in
      let e = none_left p.rest p.holds in
      let q : rows_of_definitions 0 js ≡ some p.xs = p.is ∙ ap (λ (a : Items). ahead p.xs (rows_of_definitions n a)) e.0 ∙ ap (ahead p.xs) (rows_none n) ∙ ap some (append-nil p.xs) in
      let u = came_of (raw_from 0) (definitions js) q in
      record {
        ds = u.0;
        are = u.1;
        few = omega (arith, v.few, e.1);
        size = p.size ∙ ap length u.2;
        rows = λ h.
            let a : 0 + length p.xs ≤ length old = omega (arith, p.size) in
            let b : now ≡ take 0 old ++ p.xs ++ drop (0 + length p.xs) old = p.put.words a ∙ sets-eq p.xs old 0 a in
            ap (take (row_words * n)) b ∙ ap (λ (i : ℕ). take i (p.xs ++ drop (0 + length p.xs) old)) p.size ∙ take-append_seam p.xs (drop (0 + length p.xs) old) ∙ u.2;
      }
    where
      none_left : (is : Items) → HoldsItems schema s w is l k count → (is ≡ no_items) × (k ≡ count)
      none_left no_items h = (refl, h)
      none_left (item j is) h = absurd (omega (arith, h.0))

-- a refusal handed on
pub put_failed : {s w old new : List ℕ} {count : ℕ} {r : Result ℕ NotDefinitions} → IsErr r → length new ≡ length old
    → ((js : Items) (l : ℕ) → Fit s js → HoldsItems schema s w js l 0 count → definitions js ≡ none) → PutsDefinitions s w old new count r
put_failed {r = Ok m} q e f = absurd (cc)
put_failed {r = Err b} q e f = record { same_length = e; told = f }
