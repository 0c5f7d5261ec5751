-- Inside the brackets that open at place `at` as node k: which places and nodes are reached, and what is written.
-- Bounds by omega; words written in two stretches, one after the other, are written in both together.
use Prim.Native.Nat.{ℕ, suc, ◌+◌, ◌*◌, ◌^◌, ◌≤◌, ◌<◌}
use Prim.Native.Char.{code}
use native.Mathlib.Omega.{arith}
use mathlib.Core.Path.{◌≡◌, refl, sym, ap, ◌∙◌, subst}
use mathlib.Core.List.{List}
use lib.ListN.{length, get_or}
use lib.Dec.{eqb}
use Rattle.grammar.specs.Serving.Machine.{Dialect, Out, Out.fault, Out.deep}
use Rattle.grammar.proofs.Booleans.{by}
use Rattle.tokens.specs.Tokens.{Skipped, FollowingTold, Follows}
use Rattle.text.specs.Nodes.{node_words, put_node}
use Rattle.text.specs.Containers.{opening}
use Rattle.text.specs.Readers.{Wrote, Moved, value_spare, spare, Told, ValueRead, ValueEnds, ReadsValue, EntryRead, EntryEnds, ReadsEntry, Ready, Opens}
use Rattle.std.specs.Prelude.{Result, Ok, Err}
use Rattle.std.specs.Result.{IsErrAnd}
use Rattle.std.proofs.lemmas.Result.{err_from_is_err_and}
use Rattle.strings.specs.declared.chars.Fault.{Fault as Faulty}
use Rattle.text.specs.declared.reader.Past.{Past}
use Rattle.text.specs.declared.reader.TextError.{TextError}
use Rattle.text.specs.declared.reader.TextError.TheVariants.{Fault, Deep, TooLong}
use Rattle.text.specs.declared.containers.Container.{Container}
use Rattle.text.specs.declared.containers.Container.TheVariants.{Object}
use Rattle.tokens.specs.declared.separators.Following.{Following}
use Rattle.tokens.specs.declared.separators.Following.TheVariants as Follow
use Rattle.text.proofs.Frames.{Put, put-wrote, put-there}

-- what a reader answers
abbrev pub Read : Type 0
Read = Result Past TextError

abbrev pub past : ℕ → ℕ → Read
past e n = Ok (record { end = e; next = n })

-- an error that is handed on
pub handed_on : {A E : Type 0} {f : E} (r : Result A E) → IsErrAnd r (λ e. e ≡ f) → r ≡ Err f
handed_on r h = let p = err_from_is_err_and r h in p.1 ∙ ap Err p.2

-- what an answer tells, once it is known which one it is
pub value-told : {spare : ℕ} {D : Dialect} {s old new : List ℕ} {i k levels : ℕ} {r x : Read} → ReadsValue spare D s old new i k levels r → r ≡ x
    → Told (ValueRead spare D s old new i k levels) (ValueEnds D s i levels) old new x
value-told {spare} {D} {s} {old} {new} {i} {k} {levels} v g =
    subst (λ (x : Read). Told (ValueRead spare D s old new i k levels) (ValueEnds D s i levels) old new x) g v.told

pub entry-told : {c : Container} {D : Dialect} {s old new : List ℕ} {i k levels : ℕ} {r x : Read} → ReadsEntry c D s old new i k levels r → r ≡ x
    → Told (EntryRead c D s old new i k levels) (EntryEnds c D s i levels) old new x
entry-told {c} {D} {s} {old} {new} {i} {k} {levels} v g =
    subst (λ (x : Read). Told (EntryRead c D s old new i k levels) (EntryEnds c D s i levels) old new x) g v.told

-- an answer on a part is the answer on the whole, if what was read and how the machine ends is
pub told-on : (Was Was' : ℕ → ℕ → Type 0) (Ends Ends' : Out → Type 0) (old mid new : List ℕ) (r : Read) → length mid ≡ length old
    → ((p : Past) → r ≡ Ok p → Was p.end p.next → Was' p.end p.next) → ((o : Out) → Ends o → Ends' o) → Told Was Ends mid new r → Told Was' Ends' old new r
told-on Was Was' Ends Ends' old mid new (Ok p) q f g h = f p refl h
told-on Was Was' Ends Ends' old mid new (Err (Fault e)) q f g h = (h.0 ∙ q, g (fault e) h.1)
told-on Was Was' Ends Ends' old mid new (Err (Deep e)) q f g h = (h.0 ∙ q, g (deep e) h.1)
told-on Was Was' Ends Ends' old mid new (Err TooLong) q f g h = absurd h

module _ {D : Dialect} {s : List ℕ} {i close p : ℕ} {r : Result Following Faulty} (f : Follows D s i close r) where
  pub at_comma : r ≡ Ok (Follow.Comma p) → (P : ℕ → Type 0) → ((e : ℕ) → Skipped D s i e → e < length s → get_or s e 0 ≡ code "," → P (e + 1)) → P p
  at_comma g P h = let t = subst (λ (x : Result Following Faulty). FollowingTold D s i close x) g f.told in subst P (sym t.4) (h t.0 t.1 t.2 t.3)

  pub at-close : r ≡ Ok (Follow.Close p) → (P : ℕ → Type 0) → ((e : ℕ) → Skipped D s i e → e < length s → get_or s e 0 ≡ close → P (e + 1)) → P p
  at-close g P h = let t = subst (λ (x : Result Following Faulty). FollowingTold D s i close x) g f.told in subst P (sym t.4) (h t.0 t.1 t.2 t.3)

  pub comma_on : r ≡ Ok (Follow.Comma p) → (i < p) × (p ≤ length s)
  comma_on g = at_comma g (λ p. (i < p) × (p ≤ length s)) (λ e x h z. (omega (arith, x.on), omega arith))

  pub close-on : r ≡ Ok (Follow.Close p) → (i < p) × (p ≤ length s)
  close-on g = at-close g (λ p. (i < p) × (p ≤ length s)) (λ e x h z. (omega (arith, x.on), omega arith))

pub at_neither : {D : Dialect} {s : List ℕ} {i close : ℕ} {r : Result Following Faulty} {v : Faulty} → Follows D s i close r → r ≡ Err v
    → Skipped D s i v.at × (v.at < length s → (get_or s v.at 0 ≡ code "," → ⊥) × (get_or s v.at 0 ≡ close → ⊥))
at_neither {D} {s} {i} {close} f g = subst (λ (x : Result Following Faulty). FollowingTold D s i close x) g f.told

pub wrote_none : {w : List ℕ} {k n : ℕ} → Wrote w w k n
wrote_none = record { same_length = refl; below = λ x h. refl; above = λ x h. refl }

pub wrote_then : {u v w : List ℕ} {k m n : ℕ} → k ≤ m → m ≤ n → Wrote u v k m → Wrote v w m n → Wrote u w k n
wrote_then h g a b =
    record {
      same_length = b.same_length ∙ a.same_length;
      below = λ x l. b.below x (omega arith) ∙ a.below x l;
      above = λ x l. b.above x l ∙ a.above x (omega arith);
    }

-- the node of the brackets is written last
pub wrote-put : {u v : List ℕ} {k n : ℕ} (kind start end : ℕ) → k < n → Wrote u v (suc k) n → Wrote u (put_node v k kind start end n) k n
wrote-put {u} {v} {k} {n} kind start end h a =
    let b = put-wrote v k kind start end n in
    record {
      same_length = b.same_length ∙ a.same_length;
      below = λ x l. b.below x l ∙ a.below x (omega arith);
      above = λ x l. b.above x (omega arith) ∙ a.above x l;
    }

-- place i and node n: at most a node for every two bytes, and `spare` half nodes more
pub record Reached (s old w : List ℕ) (at k i n spare : ℕ) : Type 0 where
  pub on : at < i
  pub within : i ≤ length s
  pub nodes : k < n
  pub few : 2 * n + at ≤ 2 * k + spare + i
  pub wrote : Wrote old w (suc k) n

pub spare-most : (b : ℕ) → spare b ≤ value_spare
spare-most b = by (λ x. x ≤ value_spare) (eqb b (opening Object)) (λ _. omega arith) (λ _. omega arith)

module _ {c : Container} {s w : List ℕ} {at k : ℕ} (o : Opens c s at k) where
  pub reached-first : {D : Dialect} {first : ℕ} → Skipped D s (at + 1) first → Reached s w w at k first (k + 1) value_spare
  reached-first x = record { on = omega arith; within = x.within (omega arith); nodes = omega arith; few = omega arith; wrote = wrote_none }

  pub reached-ready : {old : List ℕ} {i n : ℕ} → Reached s old w at k i n value_spare → Ready s i n
  reached-ready a = record { short = o.ready.short; within = a.within; few = omega arith }

  -- what a node of the brackets asks
  pub reached-fits : {old : List ℕ} {i n p : ℕ} → Reached s old w at k i n (spare (opening c) + 1) → p ≤ length s → (k < 2 ^ 32) × (at < 2 ^ 32) × (p < 2 ^ 32) × (n < 2 ^ 32)
  reached-fits a h = omega (arith, spare-most (opening c))

module _ {s old w : List ℕ} {at k i n spare : ℕ} where
  -- an entry moves on by its own bound
  pub reached-entry : {new : List ℕ} {e m : ℕ} → Reached s old w at k i n value_spare → Moved spare s w new i n e m → Reached s old new at k e m (spare + 1)
  reached-entry a b =
      record { on = omega arith; within = b.within; nodes = omega arith; few = omega arith; wrote = wrote_then (omega arith) (omega arith) a.wrote b.wrote }

  -- past a comma or a closing bracket
  pub reached-past : {p less : ℕ} → Reached s old w at k i n spare → i < p → p ≤ length s → spare ≤ less + 1 → Reached s old w at k p n less
  reached-past a h g l = record { on = omega arith; within = g; nodes = a.nodes; few = omega arith; wrote = a.wrote }

  -- with the node of the brackets
  pub reached-moved : (kind : ℕ) → Reached s old w at k i n spare → Moved spare s old (put_node w k kind at i n) at k i n
  reached-moved kind a = record { on = a.on; within = a.within; nodes = a.nodes; few = omega arith; wrote = wrote-put kind at i a.nodes a.wrote }

  pub reached-put : (kind : ℕ) → Reached s old w at k i n spare → node_words * n ≤ length (put_node w k kind at i n) → Put (put_node w k kind at i n) k kind at i n
  reached-put kind a h = put-there w k kind at i n (omega (arith, (put-wrote w k kind at i n).same_length, a.nodes))
