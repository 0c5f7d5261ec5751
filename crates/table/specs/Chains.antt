-- Serves contracts: walks over the members of a struct by recursion over base links, at most n structs up. proofs/ says what each is of the list of members.
use Rattle.std.specs.Prelude.{ℕ, zero, suc, Bool, true, false, ◌&&◌, ◌||◌, List, eqb}
use Rattle.grammar.specs.Limits.{chain_structs}
use Rattle.rules.specs.Names.{same_name}
use Rattle.rules.specs.Rows.{base, children}
use Rattle.rules.specs.Rules.{any, names_of, no_clash}
use Rattle.table.specs.declared.chains.Against.{Against}
use Rattle.table.specs.declared.chains.Against.TheVariants.{Children, Members}

-- the chain from a link on ends
unfoldable pub chain_ends : List ℕ → ℕ → ℕ → Bool
chain_ends T zero zero = true
chain_ends T zero (suc r) = false
chain_ends T (suc n) zero = true
chain_ends T (suc n) (suc r) = chain_ends T n (base T r)

-- row r has a child of that name
unfoldable pub has_child : List ℕ → List ℕ → ℕ → List ℕ → Bool
has_child S T r x = any (same_name x) (names_of S T (children T r))

-- row m is a member of the struct with a link
unfoldable pub is_member : List ℕ → ℕ → ℕ → ℕ → Bool
is_member T zero zero m = false
is_member T zero (suc r) m = false
is_member T (suc n) zero m = false
is_member T (suc n) (suc r) m = is_member T n (base T r) m || any (eqb m) (children T r)

-- no child of row s clashes with one of row r
abbrev pub lists_apart : List ℕ → List ℕ → ℕ → ℕ → Bool
lists_apart S T s r = no_clash (names_of S T (children T s)) (names_of S T (children T r))

-- every struct from a link on has the property
unfoldable pub every_struct : List ℕ → (ℕ → Bool) → ℕ → ℕ → Bool
every_struct T f zero zero = true
every_struct T f zero (suc r) = true
every_struct T f (suc n) zero = true
every_struct T f (suc n) (suc r) = every_struct T f n (base T r) && f r

-- the row or the link that members are judged against
abbrev pub number_of : Against → ℕ
number_of (Children r) = r
number_of (Members link) = link

-- no child of struct s clashes with one of the others
abbrev pub own_apart : List ℕ → List ℕ → Against → ℕ → Bool
own_apart S T (Children r) s = lists_apart S T s r
own_apart S T (Members link) s = every_struct T (λ t. lists_apart S T t s) chain_structs link

-- no member of the struct with a link does
unfoldable pub members_apart : List ℕ → List ℕ → Against → ℕ → ℕ → Bool
members_apart S T others n l = every_struct T (own_apart S T others) n l
