-- The members that an object has at a type: a struct's, or those of a union's base and of the branch that is chosen.
-- The idea: each return says what the object's members are by the type's row; in a sound table every link has its members.
use Prim.Native.Nat.{ℕ, suc, ◌+◌, ◌-◌, ◌<◌, ◌≤◌}
use mathlib.Core.Path.{◌≡◌, refl, sym, ap, ap₂, ◌∙◌, subst}
use mathlib.Core.Bool.{Bool, true, false}
use mathlib.Core.List.{List, [], ◌++◌, append-nil}
use mathlib.Core.Option.{Option, none, some}
use native.Mathlib.Omega.{arith}
use borrow.Author.Tests.{lt-ltb, le-ltb, ne_eqb}
use Rattle.std.specs.Prelude.{Some, None}
use Rattle.std.specs.Prelude as Std
use Rattle.grammar.specs.Limits.{chain_structs}
use Rattle.grammar.specs.Notation.{same, apart}
use Rattle.grammar.specs.Tree.{Json, Fields, kind_of}
use Rattle.grammar.specs.Tree.Scalar.{null, bool, num, str}
use Rattle.grammar.specs.Tree.Json.{leaf, arr, obj}
use Rattle.grammar.specs.Tree.Kind.{string}
use Rattle.grammar.specs.Serving.Machine.Message.{message}
use Rattle.rules.specs.Kinds.{struct_kind, union_kind}
use Rattle.rules.specs.Types.{first_row, same_kind}
use Rattle.rules.specs.Values.{as_string, value_at}
use Rattle.rules.specs.Rows.{kind, union_base, discriminator, branch_struct, children, members, name_of}
use Rattle.rules.specs.Rules.{names_of}
use Rattle.rules.specs.SchemaTable.{member_in}
use Rattle.rules.specs.Serving.ReadingOf.{append, branch_link, chosen, members_at}
use Rattle.rules.proofs.Lists.{clash}
use Rattle.rules.proofs.Lookups.{member-found}
use Rattle.rules.proofs.SoundFacts.{sound-facts}
use Rattle.rules.proofs.ReadingParts.{members-struct, members-union}
use Rattle.text.specs.Nodes.{Holds, node_kind}
use Rattle.lookups.specs.Lookups.{string_kind, ValueFound, FindsValue}
use Rattle.lookups.proofs.NodeLaws.{string_node_lem}
use Rattle.members.specs.Members.{FieldsAt, BranchTold, BranchOf, StructsTold, StructsAt}
use Rattle.children.specs.Index.{IndexedTable}
use Rattle.children.specs.Children.{ChildMeant}
use Rattle.lookups.specs.Lookups.MeaningAt.{a_string}
use Rattle.members.specs.declared.objects.Structs.{Structs}
use Rattle.members.specs.declared.objects.Structs.TheVariants.{Links, NoObject}
use Rattle.members.proofs.MemberLaws.{members-zero, branch-none, branch-at}
use Rattle.members.proofs.SoundMembers.{Has, struct-has, link-has}

-- a value is a string or not
pub not-string : (j : Json) → same_kind (kind_of j) string ≡ false → as_string j ≡ none
not-string (leaf a e null) h = refl
not-string (leaf a e (bool b)) h = refl
not-string (leaf a e (num i t)) h = refl
not-string (leaf a e (str cs)) h = absurd (clash refl h)
not-string (arr a e js) h = refl
not-string (obj a e fs) h = refl

-- the branch of the union at row r
module _ (S T m w ix : List ℕ) (r : ℕ) {k x link : ℕ} {found : Std.Option ℕ} {name : List ℕ} (p : name ≡ name_of S T x) (p' : x ≡ link - 1) (p'' : link ≡ discriminator T r)
    (g : FindsValue message m w k name found) where
  -- what is chosen, by the value found
  by_value : (P : Option (List ℕ) → Type 0) (fs : Fields) (u : FieldsAt m w k fs)
      → ((o : Option Json) → ValueFound message m w u.levels o found → P (chosen S T r o)) → P (chosen S T r (value_at (name_of S T (discriminator T r - 1)) fs))
  by_value P fs u f =
      let e : name ≡ name_of S T (discriminator T r - 1) = p ∙ ap (name_of S T) (p' ∙ ap (λ (i : ℕ). i - 1) p'') in
      rw (← e) (f (value_at name fs) (g.told fs u.levels u.holds))

  pub branch-absent : found ≡ None → BranchOf S T m w ix r k NoObject
  branch-absent z = record { told = λ fs h e u. by_value (λ x. x ≡ none) fs u (λ o q. go u.levels o (subst (ValueFound message m w u.levels o) z q)) }
    where
      go : (l : ℕ) (o : Option Json) → ValueFound message m w l o None → chosen S T r o ≡ none
      go l none q = refl
      go l (some j) q = absurd q

  module _ {v : ℕ} (n : found ≡ Some v) {t : Bool} (i : t ≡ string_kind (node_kind w v)) where
    -- the value at node v
    by_node : (P : Option (List ℕ) → Type 0) (fs : Fields) (u : FieldsAt m w k fs)
        → ((l : ℕ) (j : Json) → Holds message m w j l v → P (chosen S T r (some j))) → P (chosen S T r (value_at (name_of S T (discriminator T r - 1)) fs))
    by_node P fs u f = by_value P fs u (λ o q. go u.levels o (subst (ValueFound message m w u.levels o) n q))
      where
        go : (l : ℕ) (o : Option Json) → ValueFound message m w l o (Some v) → P (chosen S T r o)
        go l none q = absurd q
        go l (some j) q = f l j q.1

    pub branch-other : t ≡ false → BranchOf S T m w ix r k NoObject
    branch-other f = record { told = λ fs h e u. by_node (λ x. x ≡ none) fs u go }
      where
        go : (l : ℕ) (j : Json) → Holds message m w j l v → chosen S T r (some j) ≡ none
        go l j q = rw (not-string j (sym (string_node_lem message m w j l v q) ∙ sym i ∙ f), chosen)

    -- a string: what it chooses
    module _ (f : t ≡ true) where
      chooses : (P : Option (List ℕ) → Type 0) (fs : Fields) → FieldsAt m w k fs
          → ((a e l : ℕ) (cs : List ℕ) → Holds message m w (leaf a e (str cs)) l v → P (members T chain_structs (branch_link S T cs (children T r))))
          → P (chosen S T r (value_at (name_of S T (discriminator T r - 1)) fs))
      chooses P fs u d = by_node P fs u (λ l j q. at l j q (sym (string_node_lem message m w j l v q) ∙ sym i ∙ f))
        where
          at : (l : ℕ) (j : Json) → Holds message m w j l v → same_kind (kind_of j) string ≡ true → P (chosen S T r (some j))
          at l (leaf a e null) h z = absurd (clash z refl)
          at l (leaf a e (bool b)) h z = absurd (clash z refl)
          at l (leaf a e (num b token)) h z = absurd (clash z refl)
          at l (leaf a e (str cs)) h z = d a e l cs h
          at l (arr a e js) h z = absurd (clash z refl)
          at l (obj a e fs) h z = absurd (clash z refl)

      module _ {b c : ℕ} (q : b ≡ union_base T r) (d : ChildMeant S T m w ix r v c) where
        -- its names are apart from those of the base's members
        abbrev Apart : List ℕ → Type 0
        Apart added = (ms : List ℕ) → members T chain_structs (union_base T r) ≡ some ms → apart same (names_of S T (ms ++ added)) ≡ true

        branch_found : (y : ℕ) → IndexedTable S T ix → ((cs : List ℕ) → c ≡ member_in S T cs (children T r) → (has : Has T y) × Apart has.rows × (branch_link S T cs (children T r) ≡ y))
            → (fs : Fields) → FieldsAt m w k fs → BranchTold S T r fs (Links b y)
        branch_found y g z fs u =
            let f = chooses (λ x. (has : Has T y) × Apart has.rows × (x ≡ some has.rows)) fs u
            (λ a e l cs h. let o = z cs (d.told cs g (a_string a e l h)) in (o.0, o.1, ap (members T chain_structs) o.2 ∙ o.0.are)) in
            (q, record { added = f.0.rows; added_is = f.0.are; chosen_is = f.2; names_apart = f.1 })

        pub branch_unmeant : c ≡ 0 → BranchOf S T m w ix r k (Links b 0)
        branch_unmeant z = record {
          told = λ fs h e u. branch_found 0 h
              (λ cs x. (
                record { rows = []; are = members-zero T chain_structs },
                (λ ms p. rw (append-nil ms) ((sound-facts S T h.sound_table).union_apart r ms e p)),
                branch-none S T cs (children T r) (sym z ∙ x),
              ))
              fs u;
        }

        pub branch_meant : (c ≡ 0 → ⊥) → {y : ℕ} → y ≡ branch_struct T (c - 1) → BranchOf S T m w ix r k (Links b y)
        branch_meant z {y} x = record {
          told = λ fs h e u. branch_found y h
              (λ cs o.
              let n : c ≡ suc (c - 1) = omega arith in
              let f = member-found S T cs (children T r) (c - 1) (sym o ∙ n) in
              let facts = sound-facts S T h.sound_table in
              let has = link-has S T h.sound_table (branch_struct T (c - 1)) (facts.branch_linked r (c - 1) e f.0) in (
                record { rows = has.rows; are = ap (members T chain_structs) x ∙ has.are },
                (λ ms p. facts.branch_apart r (c - 1) ms has.rows e p f.0 has.are),
                branch-at S T cs (children T r) o z ∙ sym x,
              ))
              fs u;
        }

-- the type reference t
module _ (S T m w : List ℕ) {ix : List ℕ} {k t : ℕ} where
  pub structs-none : t ≡ 0 → StructsAt S T m w ix k t (Links 0 0)
  unfolding members_at
  structs-none z = record {
    told = λ fs o u. record {
      base = [];
      branch = [];
      base_is = members-zero T chain_structs;
      branch_is = members-zero T chain_structs;
      both = rw z;
      names_apart = refl;
    };
  }

  pub structs-below : (t ≡ 0 → ⊥) → t < first_row → StructsAt S T m w ix k t NoObject
  unfolding members_at
  structs-below n h = record { told = λ fs o u. rw (ne_eqb t 0 n, lt-ltb t first_row h) }

  module _ (h : first_row ≤ t) {r y : ℕ} (p : r ≡ t - first_row) (q : y ≡ kind T r) where
    pub structs-struct : y ≡ struct_kind → {l : ℕ} → l ≡ t - first_row + 1 → StructsAt S T m w ix k t (Links l 0)
    structs-struct e {l} z = record {
      told = λ fs o u.
          let n : l ≡ suc r = omega arith in
          let has = struct-has S T o.sound_table r (sym q ∙ e) in
          record {
            base = has.rows;
            branch = [];
            base_is = ap (members T chain_structs) n ∙ has.are;
            branch_is = members-zero T chain_structs;
            both = members-struct S T t r fs (omega arith) (sym q ∙ e) ∙ has.are ∙ ap some (sym (append-nil has.rows));
            names_apart = rw (append-nil has.rows) ((sound-facts S T o.sound_table).struct_apart r has.rows (sym q ∙ e) has.are);
          };
    }

    pub structs-union : y ≡ union_kind → {x : Structs} → BranchOf S T m w ix r k x → StructsAt S T m w ix k t x
    structs-union e {x} g = record { told = λ fs o u. go x fs o (g.told fs o (sym q ∙ e) u) }
      where
        base-has : IndexedTable S T ix → Has T (union_base T r)
        base-has o = link-has S T o.sound_table (union_base T r) ((sound-facts S T o.sound_table).union_link r (sym q ∙ e))

        go : (x : Structs) (fs : Fields) → IndexedTable S T ix → BranchTold S T r fs x → StructsTold S T t fs x
        go (Links b c) fs o d =
            let has = base-has o in
            record {
              base = has.rows;
              branch = d.1.added;
              base_is = ap (members T chain_structs) d.0 ∙ has.are;
              branch_is = d.1.added_is;
              both = members-union S T t r fs (omega arith) (sym q ∙ e) ∙ ap₂ append has.are d.1.chosen_is;
              names_apart = d.1.names_apart has.rows has.are;
            }
        go NoObject fs o d = members-union S T t r fs (omega arith) (sym q ∙ e) ∙ ap₂ append (base-has o).are d

    pub structs-other : (y ≡ struct_kind → ⊥) → (y ≡ union_kind → ⊥) → StructsAt S T m w ix k t NoObject
    unfolding members_at
    structs-other e f = record { told = λ fs o u. rw (ne_eqb t 0 (omega arith), le-ltb t first_row h, ← p, ← q, ne_eqb y struct_kind e, ne_eqb y union_kind f) }
