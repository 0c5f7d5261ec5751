-- Unions: what the code finds under the keys, and the rows that it puts, make the rows of the union.
use Prim.Native.Nat.{ℕ, ◌+◌, ◌-◌, ◌*◌}
use native.Mathlib.Omega.{arith}
use mathlib.Core.Path.{◌≡◌, refl, sym, ap, ◌∙◌, subst}
use mathlib.Core.Bool.{Bool, true, false}
use mathlib.Core.List.{List, ◌++◌, map, append_assoc}
use mathlib.Core.Option.{Option, none, some}
use lib.ListN.{length, set, length-append, length-map}
use Rattle.grammar.specs.Limits.{row_words}
use Rattle.grammar.specs.Notation.{text}
use Rattle.grammar.specs.Tree.{Json}
use Rattle.grammar.specs.Serving.Machine.Schema.{schema}
use Rattle.text.specs.Nodes.{node_kind}
use Rattle.lookups.specs.Lookups.{string_kind, FindsValue}
use Rattle.rules.specs.Kinds.{union_kind, branch_kind}
use Rattle.rules.specs.Definitions.{Name, Data, Pair, as_name, as_pairs, as_data, must}
use Rattle.rules.specs.Definitions.{union_body}
use Rattle.rules.specs.Definitions.Body.{union}
use Rattle.rules.specs.Values.{◌>>=◌, value_at}
use Rattle.rules.specs.SchemaTable.{row, concat, data_link}
use Rattle.rules.specs.Serving.RawTable.{packed}
use Rattle.definitions.specs.Places.{Found, Named, NameWord, NamedRow, Links}
use Rattle.std.specs.Prelude.{Some, None, Result, Ok, Err}
use Rattle.std.specs.Prelude as Std
use Rattle.definitions.specs.declared.writing.NotDefinitions.{NotDefinitions}
use Rattle.definitions.specs.Written.{RowPut, RowsAre, PutsRows}
use Rattle.definitions.specs.Parts.{pair_row, ChildrenAt, InlineAt, inline_words, UnionAt, body_rows}
use Rattle.definitions.proofs.Options.{came_of, none_of, must-then, never, both-there}
use Rattle.definitions.proofs.NameLaws.{is_name, no_name}
use Rattle.definitions.proofs.ShapeLaws.{held-there}
use Rattle.definitions.proofs.Stores.{put-after, put_under}
use Rattle.definitions.proofs.CountLaws.{inline-put, inline-none, children-put, children-none}
use Rattle.definitions.proofs.BodyLaws.{found_at, BodyLeft, somewhere, nowhere}

-- the rows of a union, given its discriminator; none without one
module _ (n : ℕ) (name : Name) where
  abbrev union_so : Option Data → Option Name → Option (List Pair) → Option (List ℕ)
  union_so x y z = (x >>= λ b. y >>= λ t. z >>= λ ps. some (union b t ps)) >>= λ b. some (body_rows n name b)

  union_without : (x : Option Data) (z : Option (List Pair)) → union_so x none z ≡ none
  union_without none z = refl
  union_without (some b) z = refl

  union-given : (x : Option Data) (discriminator : Name) (z : Option (List Pair)) → union_so x (some discriminator) z ≡ (x >>= λ b. z >>= λ ps. some (body_rows n name (union b discriminator ps)))
  union-given none discriminator z = refl
  union-given (some b) discriminator none = refl
  union-given (some b) discriminator (some ps) = refl

module _ {s w : List ℕ} {k : ℕ} {at : Std.Option ℕ} where
  discriminator-named : {r : Bool} → at ≡ Some k → r ≡ string_kind (node_kind w k) → r ≡ true → (o : Option Json) → Found s w o at → (discriminator : Name) × (must as_name o ≡ some discriminator) × Named w k 0 discriminator
  discriminator-named {r} z q e o u = go o (subst (Found s w o) z u)
    where
      go : (o : Option Json) → Found s w o (Some k) → (discriminator : Name) × (must as_name o ≡ some discriminator) × Named w k 0 discriminator
      go none u = absurd u.found
      go (some j) u = let x = is_name (held-there u) q e in (x.name, x.is, x.named)

module _ {s w : List ℕ} {k v n : ℕ} {b : Std.Option ℕ} (f : FindsValue schema s w k (text "base") b) where
  pub union_no_base : b ≡ None → (o : Option (List ℕ)) → BodyLeft s w union_body k v n o → o ≡ none
  union_no_base e o h = h.are ∙ rw (nowhere (value_at (text "base") h.fs) (found_at h.fields f) e)

  module _ {t : Std.Option ℕ} (g : FindsValue schema s w k (text "discriminator") t) where
    without_discriminator : (o : Option (List ℕ)) (h : BodyLeft s w union_body k v n o) → must as_name (value_at (text "discriminator") h.fs) ≡ none → o ≡ none
    without_discriminator o h e =
        h.are
        ∙ ap (λ (y : Option Name). union_so n h.name (must as_data (value_at (text "base") h.fs)) y (must as_pairs (value_at (text "data") h.fs))) e
        ∙ union_without n h.name (must as_data (value_at (text "base") h.fs)) (must as_pairs (value_at (text "data") h.fs))

    pub union_no_discriminator : t ≡ None → (o : Option (List ℕ)) → BodyLeft s w union_body k v n o → o ≡ none
    union_no_discriminator e o h = without_discriminator o h (ap (must as_name) (nowhere (value_at (text "discriminator") h.fs) (found_at h.fields g) e))

    module _ {discriminator : ℕ} {r : Bool} (z : t ≡ Some discriminator) (q : r ≡ string_kind (node_kind w discriminator)) where
      pub union-bad-discriminator : r ≡ false → (o : Option (List ℕ)) → BodyLeft s w union_body k v n o → o ≡ none
      union-bad-discriminator e o h = let y = value_at (text "discriminator") h.fs in without_discriminator o h (go y (subst (Found s w y) z (found_at h.fields g)))
        where
          go : (y : Option Json) → Found s w y (Some discriminator) → must as_name y ≡ none
          go none u = refl
          go (some j) u = no_name (held-there u) q e

      pub union_handed : {base : ℕ} {d : Std.Option ℕ} → r ≡ true → b ≡ Some base → FindsValue schema s w k (text "data") d → (o : Option (List ℕ)) → BodyLeft s w union_body k v n o → UnionAt s w v base discriminator d n o
      union_handed e m l o h =
          let base = somewhere (value_at (text "base") h.fs) (found_at h.fields f) m in
          let branches = value_at (text "data") h.fs in
          let x = discriminator-named z q e (value_at (text "discriminator") h.fs) (found_at h.fields g) in
          record {
            base = base.value;
            base_found = base.found;
            branches = branches;
            branches_found = found_at h.fields l;
            discriminator = x.0;
            discriminator_at = x.2;
            name = h.name;
            named = h.named;
            are =
                h.are ∙ ap (λ (i : Option Json). union_so n h.name (must as_data i) (must as_name (value_at (text "discriminator") h.fs)) (must as_pairs branches)) base.is
                ∙ ap (λ (y : Option Name). union_so n h.name (as_data base.value) y (must as_pairs branches)) x.1
                ∙ union-given n h.name (as_data base.value) x.0 (must as_pairs branches);
          }

same-union : {l c t i j k : ℕ} {rs : List (List ℕ)} (ps : List Pair) (name : Name) (xs : List ℕ) → l ≡ i → c ≡ j → t ≡ k → rs ≡ map (pair_row branch_kind) ps
    → row union_kind name l c t 0 ++ (xs ++ concat rs) ≡ row union_kind name i j k 0 ++ xs ++ concat (map (pair_row branch_kind) ps)
same-union {i = i} {j} {k} ps name xs e f g h = cc (append_assoc (row union_kind name i j k 0) xs (concat (map (pair_row branch_kind) ps)))

-- the rows of a union, out of what was put
module _ {s w : List ℕ} {v b t n : ℕ} {d : Std.Option ℕ} {old mid : List ℕ} {next most : ℕ} {r : Result ℕ NotDefinitions} (h : PutsRows (InlineAt s w (Some b)) old mid next most r) where
  pub union-bad-base : {bad : NotDefinitions} → r ≡ Err bad → (o : Option (List ℕ)) → UnionAt s w v b t d n o → o ≡ none
  union-bad-base q o u = u.are ∙ rw (none_of some (as_data u.base) (inline-none h u.base_found q))

  module _ {first : ℕ} (q : r ≡ Ok first) {late : List ℕ} {more : ℕ} {p : Result ℕ NotDefinitions} (g : PutsRows (ChildrenAt s w branch_kind d) mid late first more p) where
    pub union-bad-branches : {bad : NotDefinitions} → p ≡ Err bad → (o : Option (List ℕ)) → UnionAt s w v b t d n o → o ≡ none
    union-bad-branches y o u =
        let x : must as_pairs u.branches ≡ none = none_of (map (pair_row branch_kind)) (must as_pairs u.branches) (sym (must-then (map (pair_row branch_kind)) as_pairs u.branches) ∙ children-none g u.branches_found y) in
        u.are
        ∙ ap (λ (i : Option (List Pair)). as_data u.base >>= λ z. i >>= λ ps. some (body_rows n u.name (union z u.discriminator ps))) x ∙ never (as_data u.base)

    pub union-put : {new own : List ℕ} {m link count discriminator : ℕ} → next ≡ n + 1 → p ≡ Ok m → NamedRow w v 0 union_kind own → Links w (Some b) n link → count ≡ m - first → NameWord w t 0 packed discriminator
        → RowPut late new n (set (set (set own 3 link) 4 count) 5 discriminator)
        → (o : Option (List ℕ)) → UnionAt s w v b t d n o → RowsAre o old new n m
    union-put {new} {own} {m} {link} {count} {discriminator} e y names l c z k o u =
        let i = inline-put h u.base_found q in
        let x = children-put g u.branches_found y in
        let ps = came_of (map (pair_row branch_kind)) (must as_pairs u.branches) (sym (must-then (map (pair_row branch_kind)) as_pairs u.branches) ∙ x.are) in
        let base = came_of (λ (d : Data). some d) (as_data u.base) i.are in
        let inline-size : row_words * first ≡ row_words * next + length (inline_words (some base.0)) = i.size ∙ ap (λ (d : Option Data). row_words * next + length (inline_words d)) base.2 in
        let inline-words : RowPut old mid next (inline_words (some base.0)) = subst (λ (d : Option Data). RowPut old mid next (inline_words d)) base.2 i.put in
        let a : link ≡ data_link packed n base.0 = l.told s (some u.base) u.base_found (some base.0) (i.are ∙ ap some base.2) in
        let f : count ≡ length ps.0 = c ∙ x.count ∙ ap length ps.2 ∙ length-map ps.0 (pair_row branch_kind) in
        let j : discriminator ≡ packed u.discriminator = z.told u.discriminator u.discriminator_at in
        let put : RowPut late new n (row union_kind u.name link count discriminator 0) =
        subst (λ (x : List ℕ). RowPut late new n (set (set (set x 3 link) 4 count) 5 discriminator)) (names.told u.name u.named) k in
        let all : RowPut old new n (row union_kind u.name link count discriminator 0 ++ (inline_words (some base.0) ++ concat x.rs)) = put_under (omega arith) (put-after inline-size inline-words x.put) put in
        let same : row union_kind u.name link count discriminator 0 ++ (inline_words (some base.0) ++ concat x.rs) ≡ body_rows n u.name (union base.0 u.discriminator ps.0) =
        same-union ps.0 u.name (inline_words (some base.0)) a f j ps.2 in
        record {
          xs = body_rows n u.name (union base.0 u.discriminator ps.0);
          are = u.are ∙ both-there (λ x ps. body_rows n u.name (union x u.discriminator ps)) base.1 ps.1;
          size = omega (arith, inline-size, x.size, ap length same, length-append (inline_words (some base.0)) (concat x.rs));
          put = subst (λ (xs : List ℕ). RowPut old new n xs) same all;
        }
