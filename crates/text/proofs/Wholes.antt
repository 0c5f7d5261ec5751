-- Whole texts: one law for each return of `read_message` and `read_objects`, and what their calls ask.
-- The run from the start of the text to its answer is the machine's, and the machine's answers are the grammar's (grammar, Texts).
use Prim.Native.Nat.{ℕ, ◌*◌, ◌≤◌, ◌<◌}
use Prim.Native.Char.{code}
use native.Mathlib.Omega.{arith}
use mathlib.Core.Path.{◌≡◌, refl, ap, ◌∙◌}
use mathlib.Core.Bool.{Bool, true, false}
use mathlib.Core.List.{List}
use lib.Dec.{eqb}
use lib.ListN.{length, get_or}
use borrow.Author.Tests.{ne_eqb}
use Rattle.grammar.specs.Limits.{schema_levels, message_levels}
use Rattle.grammar.specs.Lexis.{blank}
use Rattle.grammar.specs.Tree.{Items, Items.no_items, Items.item}
use Rattle.grammar.specs.Serving.Machine.{Dialect, Stack, Stack.bottom, Control, Next.stuck, Out, Out.whole, reverse_items, step, finish, read}
use Rattle.grammar.specs.Serving.Machine.Control.{AtObject, AtValue, After}
use Rattle.grammar.specs.Serving.Machine.Schema.{schema, read_schema}
use Rattle.grammar.specs.Serving.Machine.Message.{message, read_message}
use Rattle.grammar.proofs.Texts.{schema-sound, schema-fault, schema-deep, message-sound, message-fault, message-deep}
use Rattle.tokens.specs.Tokens.{Skips, Skips.at_object, Skips.after_value, Skipped}
use Rattle.text.specs.Readers.{Stands, value_spare, spare, ReadsValue, Ready}
use Rattle.text.specs.Texts.{ReadsMessage, ReadsSchema}
use Rattle.std.specs.Prelude.{Ok, Err}
use Rattle.text.specs.declared.reader.Past.{Past}
use Rattle.text.specs.declared.reader.TextError.{TextError}
use Rattle.text.specs.declared.reader.TextError.TheVariants.{Fault, Deep, TooLong}
use Rattle.text.specs.declared.containers.Container.TheVariants.{Array}
use Rattle.text.proofs.Places.{Runs, Ends, then, then-ends, blanks, byte_alike, byte_stuck, at-end}
use Rattle.text.proofs.Inside.{Read, value-told}
use Rattle.text.proofs.Values.{stood, missed}
use Rattle.text.proofs.Entries.{HeldEntries, held_none, held-entry}
use Rattle.text.specs.Nodes.{node_words, text_bound}

-- messages
message-answers : {s : List ℕ} {o : Out} → Ends message s message_levels AtValue (bottom no_items) 0 o → read_message s ≡ o
unfolding read_message read
message-answers e = e.path

module _ {s old new : List ℕ} {r : Read} (v : ReadsValue value_spare message s old new 0 0 message_levels r) where
  module _ {y : Past} {p : ℕ} (g : r ≡ Ok y) (x : Skipped message s y.end p) where
    -- the value and the blanks after it
    message-past : Runs message s message_levels AtValue (bottom no_items) 0 (After (value-told v g).tree) (bottom no_items) p
    message-past =
        then (record { path = (value-told v g).runs message_levels (bottom no_items) refl }) (blanks after_value x)

    pub message-whole : length s ≤ p → ReadsMessage s old new (Ok y.next)
    message-whole h =
        let t = value-told v g in
        record {
          same_length = t.moved.wrote.same_length;
          told =
              record {
                tree = t.tree;
                text = message-sound (message-answers (then-ends message-past (at-end h)));
                few = omega (arith, t.moved.few, t.moved.within);
                holds = t.holds;
                ends = t.ends;
              };
        }

    pub message-more : p < length s → ReadsMessage s old new (Err (Fault p))
    message-more h =
        let l = x.solid h in
        record {
          same_length = (value-told v g).moved.wrote.same_length;
          told = message-fault (message-answers (then-ends message-past (byte_stuck h (simp l.0))));
        }

  pub message-stops : (e : TextError) → r ≡ Err e → ReadsMessage s old new (Err e)
  message-stops (Fault e) g =
      let t = value-told v g in
      record { same_length = t.0; told = message-fault (message-answers (record { path = t.1 message_levels (bottom no_items) refl })) }
  message-stops (Deep e) g =
      let t = value-told v g in
      record { same_length = t.0; told = message-deep (message-answers (record { path = t.1 message_levels (bottom no_items) refl })) }
  message-stops TooLong g = absurd (value-told v g)

-- schemas: between the objects, those before in reverse
abbrev between : Items → Control schema
between no_items = AtObject
between (item v js) = After v

abbrev below : Items → Stack
below no_items = bottom no_items
below (item v js) = bottom js

between_skips : (s : List ℕ) (js : Items) → Skips schema s (between js)
between_skips s no_items = at_object
between_skips s (item v js) = after_value

between_ends : (js : Items) (p : ℕ) → finish schema (between js) (below js) p ≡ whole (reverse_items js no_items)
between_ends no_items p = refl
between_ends (item v js) p = refl

between-opens : (js : Items) (p : ℕ) → step schema schema_levels (between js) (below js) p (code "{") ≡ step schema schema_levels AtValue (bottom js) p (code "{")
unfolding blank
between-opens no_items p = refl
between-opens (item v js) p = refl

between_stuck : (js : Items) (p b : ℕ) → blank b ≡ false → eqb b (code "#") ≡ false → (b ≡ code "{" → ⊥) → step schema schema_levels (between js) (below js) p b ≡ stuck
between_stuck no_items p b f g h = simp (f, g, ne_eqb _ _ h)
between_stuck (item v js) p b f g h = simp (f, g, ne_eqb _ _ h)

schema-answers : {s : List ℕ} {o : Out} → Ends schema s schema_levels AtObject (bottom no_items) 0 o → read_schema s ≡ o
unfolding read_schema read
schema-answers e = e.path

-- at place i and node n, where an object or the end is next
pub record ObjectsAt (s old w : List ℕ) (i n : ℕ) : Type 0 where
  pub within : i ≤ length s
  pub few : 2 * n ≤ i
  pub same_length : length w ≡ length old
  pub items : Items
  pub runs : Runs schema s schema_levels AtObject (bottom no_items) 0 (between items) (below items) i
  pub held : node_words * n ≤ length w → HeldEntries schema s w Array items schema_levels 0 n

pub objects_begin : {s w : List ℕ} → ObjectsAt s w w 0 0
objects_begin {w = w} =
    record { within = omega arith; few = omega arith; same_length = refl; items = no_items; runs = record { path = refl }; held = λ f. held_none schema _ w Array schema_levels 0 }

module _ {s old w : List ℕ} {i n p : ℕ} (a : ObjectsAt s old w i n) (x : Skipped schema s i p) where
  objects-past : Runs schema s schema_levels AtObject (bottom no_items) 0 (between a.items) (below a.items) p
  objects-past = then a.runs (blanks (between_skips s a.items) x)

  pub objects-whole : length s ≤ p → ReadsSchema s old w (Ok n)
  objects-whole h =
      record {
        same_length = a.same_length;
        told =
            record {
              items = reverse_items a.items no_items;
              text = schema-sound (schema-answers (record { path = (then-ends objects-past (at-end h)).path ∙ between_ends a.items p }));
              few = omega arith;
              holds = λ f. a.held f w (λ y c d. refl) no_items n refl;
            };
      }

  pub objects-other : {t : Bool} → p < length s → Stands s p (code "{") t → t ≡ false → ReadsSchema s old w (Err (Fault p))
  objects-other h f e =
      let l = x.solid h in
      let b = between_stuck a.items p (get_or s p 0) l.0 l.1 (missed f e h) in
      record { same_length = a.same_length; told = schema-fault (schema-answers (then-ends objects-past (byte_stuck h b))) }

pub object-on : {D : Dialect} {s w new : List ℕ} {i n p spare levels : ℕ} {r : Read} {y : Past} → Skipped D s i p → ReadsValue spare D s w new p n levels r → r ≡ Ok y
    → (i < y.end) × (y.end ≤ length s)
object-on x v g = let z = (value-told v g).moved in (omega (arith, x.on, z.on), z.within)

-- where an object opens
module _ {s old w : List ℕ} {i n p : ℕ} {t : Bool} (a : ObjectsAt s old w i n) (x : Skipped schema s i p) (f : Stands s p (code "{") t) (e : t ≡ true) where
  -- the machine reads a value there
  object-opens : Runs schema s schema_levels AtObject (bottom no_items) 0 AtValue (bottom a.items) p
  object-opens = let b = stood f e in then (objects-past a x) (byte_alike b.0 b.1 (between-opens a.items p))

  pub object-ready : length s < text_bound → Ready s p n
  object-ready h = record { short = h; within = omega (arith, stood f e); few = omega (arith, x.on, a.few) }

  module _ {new : List ℕ} {r : Read} (v : ReadsValue (spare (get_or s p 0)) schema s w new p n schema_levels r) where
    pub object-past : {y : Past} → r ≡ Ok y → ObjectsAt s old new y.end y.next
    object-past {y} g =
        let m = y.next in
        let z = value-told v g in
        record {
          within = z.moved.within;
          few = omega (arith, a.few, x.on, z.moved.few, ap spare (stood f e).1);
          same_length = z.moved.wrote.same_length ∙ a.same_length;
          items = item z.tree a.items;
          runs = then object-opens (record { path = z.runs schema_levels (bottom a.items) refl });
          held = λ x. held-entry schema s w new Array a.items tt z.tree schema_levels 0 n m (omega arith) z.moved.nodes z.moved.wrote
              (a.held (omega (arith, z.moved.nodes, z.moved.wrote.same_length))) (z.moved.nodes, z.holds x, z.ends x);
        }

    pub object-stops : (e : TextError) → r ≡ Err e → ReadsSchema s old new (Err e)
    object-stops (Fault e) g =
        let z = value-told v g in
        record { same_length = z.0 ∙ a.same_length; told = schema-fault (schema-answers (record { path = object-opens.path ∙ z.1 schema_levels (bottom a.items) refl })) }
    object-stops (Deep e) g =
        let z = value-told v g in
        record { same_length = z.0 ∙ a.same_length; told = schema-deep (schema-answers (record { path = object-opens.path ∙ z.1 schema_levels (bottom a.items) refl })) }
    object-stops TooLong g = absurd (value-told v g)
