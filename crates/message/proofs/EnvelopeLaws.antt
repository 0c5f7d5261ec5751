-- The envelope by its parts: no other key, the values under the keys, and what they are by the kinds of their nodes.
use Prim.Native.Nat.{ℕ, ◌-◌, ◌<◌}
use native.Mathlib.Omega.{arith}
use mathlib.Core.Path.{◌≡◌, refl, sym, ◌∙◌, subst}
use mathlib.Core.Logic.{◌⊎◌, inl, inr}
use mathlib.Core.Bool.{Bool, true, false, cond}
use mathlib.Core.List.{List, [], ◌∷◌}
use mathlib.Core.Option.{Option, none, some}
use lib.Dec.{eqb}
use borrow.Author.Tests.{eqb-true, eq-eqb}
use Rattle.std.specs.Prelude.{Some, None, unwrap_or}
use Rattle.std.specs.Prelude as Std
use Rattle.grammar.specs.Notation.{text, same, apart}
use Rattle.grammar.specs.Tree.{Json, Fields}
use Rattle.grammar.specs.Tree.Scalar.{null, bool, num, str}
use Rattle.grammar.specs.Tree.Json.{leaf, arr, obj}
use Rattle.grammar.specs.Tree.Fields.{no_fields}
use Rattle.grammar.specs.Keys.{keys_of, keys_once, keys_once_f}
use Rattle.grammar.specs.Serving.Machine.Message.{message}
use Rattle.strings.specs.declared.dialects.Dialect.TheVariants.{Message}
use Rattle.rules.specs.Values.{◌>>=◌, as_string, value_at}
use Rattle.rules.specs.Envelope.{Envelope, as_arguments, as_call, envelope}
use Rattle.rules.proofs.Lists.{clash, and_left}
use Rattle.text.specs.Nodes.{node, Holds, node_kind}
use Rattle.text.proofs.KeyLaws.{scalar-no_object}
use Rattle.lookups.specs.Lookups.{ValueFound, FindsValue, NoOtherKeys, NoOthers}
use Rattle.lookups.specs.Lookups.FindsEach.{nothing, ◌and◌}
use Rattle.lookups.proofs.KeyCounts.{only_these}
use Rattle.lookups.proofs.NodeLaws.{string_node_lem}
use Rattle.message.specs.declared.envelope.Envelope as E
use Rattle.message.specs.declared.envelope.Envelope.TheVariants.{Call, Improper}
use Rattle.message.specs.Envelopes.{call_of, proper_arguments, call_by_one, called_by, SaidAt, EnvelopeTold, ReadsEnvelope}
use Rattle.tokens.specs.NodeKinds.{object_node}

module _ (m w : List ℕ) where
  -- refused for what is said of an object
  refused : ((a e : ℕ) (fs : Fields) (l : ℕ) → Holds message m w (obj a e fs) l 0 → apart same (keys_of fs) ≡ true → envelope (obj a e fs) ≡ none) → ReadsEnvelope m w Improper
  unfolding envelope
  refused h = record { told = λ j l x k. go j l x k }
    where
      go : (j : Json) (l : ℕ) → Holds message m w j l 0 → keys_once j ≡ true → EnvelopeTold m w (l - 1) (envelope j) Improper
      go (leaf a e v) l x k = refl
      go (arr a e js) l x k = refl
      go (obj a e fs) l x k = subst (λ (o : Option Envelope). EnvelopeTold m w (l - 1) o Improper) (sym (h a e fs l x (and_left (apart same (keys_of fs)) (keys_once_f fs) k))) refl

  pub not-object : (node w 0 0 ≡ object_node → ⊥) → ReadsEnvelope m w Improper
  not-object h = refused (λ a e fs l x k. absurd (h x.0.has_kind))

  module _ (l : ℕ) where
    -- the value at node k is an object exactly when its kind says so
    are-object : (j : Json) (k : ℕ) → Holds message m w j l k → eqb (node_kind w k) object_node ≡ true → as_arguments (some j) ≡ some j
    are-object (leaf a e v) k h t = absurd (scalar-no_object m a e v (sym h.0.has_kind ∙ eqb-true (node_kind w k) object_node t))
    are-object (arr a e js) k h t = absurd (let u = eqb-true (node_kind w k) object_node t in omega (arith, h.0.has_kind))
    are-object (obj a e fs) k h t = refl

    are-no_object : (j : Json) (k : ℕ) → Holds message m w j l k → eqb (node_kind w k) object_node ≡ false → as_arguments (some j) ≡ none
    are-no_object (leaf a e v) k h t = refl
    are-no_object (arr a e js) k h t = refl
    are-no_object (obj a e fs) k h t = absurd (clash (eq-eqb (node_kind w k) object_node h.0.has_kind) t)

    -- what the arguments are, and where they stand
    pub record ArgumentsAt (o : Option Json) (k : Std.Option ℕ) : Type 0 where
      pub value : Json
      pub are : as_arguments o ≡ some value
      pub at : ((unwrap_or k 0 ≡ 0) × (value ≡ obj 0 0 no_fields)) ⊎ ((0 < unwrap_or k 0) × Holds message m w value l (unwrap_or k 0))

    arguments-at : (o : Option Json) (k : Std.Option ℕ) → ValueFound message m w l o k → proper_arguments w k ≡ true → ArgumentsAt o k
    arguments-at none None f t = record { value = obj 0 0 no_fields; are = refl; at = inl (refl, refl) }
    arguments-at none (Some k) f t = absurd f
    arguments-at (some j) None f t = absurd f
    arguments-at (some j) (Some k) f t = record { value = j; are = are-object j k f.1 t; at = inr f }

    arguments-not : (o : Option Json) (k : Std.Option ℕ) → ValueFound message m w l o k → proper_arguments w k ≡ false → as_arguments o ≡ none
    arguments-not none None f t = absurd (clash refl t)
    arguments-not none (Some k) f t = absurd f
    arguments-not (some j) None f t = absurd f
    arguments-not (some j) (Some k) f t = are-no_object j k f.1 t

    abbrev saying : Option Json → Bool → List ℕ → Option Envelope
    saying v oob cs = as_arguments v >>= λ a. some (record { name = cs; out_of_band = oob; arguments = a })

    -- the name: a string, or no envelope
    module _ (v : Option Json) (k : Std.Option ℕ) (p : ArgumentsAt v k) where
      say : List ℕ → Bool → Envelope
      say cs oob = record { name = cs; out_of_band = oob; arguments = p.value }

      said : (x : ℕ) (oob : Bool) (a e : ℕ) (cs : List ℕ) → Holds message m w (leaf a e (str cs)) l x → SaidAt m w l (say cs oob) (Call x oob (unwrap_or k 0))
      unfolding say
      said x oob a e cs h =
          record { name = x; arguments = unwrap_or k 0; is = refl; name_start = a; name_end = e; name_holds = h; arguments_hold = p.at }

      -- an envelope by the value j at node x
      by_name : (j : Json) (x : ℕ) (oob : Bool) → Holds message m w j l x → EnvelopeTold m w l (as_string j >>= saying v oob) (call_of w x oob k)
      unfolding say
      by_name (leaf a e null) x oob h = rw (string_node_lem message m w (leaf a e null) l x h) refl
      by_name (leaf a e (bool b)) x oob h = rw (string_node_lem message m w (leaf a e (bool b)) l x h) refl
      by_name (leaf a e (num i t)) x oob h = rw (string_node_lem message m w (leaf a e (num i t)) l x h) refl
      by_name (leaf a e (str cs)) x oob h = rw (string_node_lem message m w (leaf a e (str cs)) l x h, p.are) (said x oob a e cs h)
      by_name (arr a e js) x oob h = rw (string_node_lem message m w (arr a e js) l x h) refl
      by_name (obj a e fs) x oob h = rw (string_node_lem message m w (obj a e fs) l x h) refl

    -- the two keys that name a command: exactly one
    by_keys : (ox oy v : Option Json) (x y k : Std.Option ℕ) → ValueFound message m w l ox x → ValueFound message m w l oy y → ArgumentsAt v k
        → EnvelopeTold m w l (as_call ox oy v) (call_by_one w x y k)
    by_keys none none v None None k f g p = refl
    by_keys (some i) none v (Some x) None k f g p = by_name v k p i x false f.1
    by_keys none (some j) v None (Some y) k f g p = by_name v k p j y true g.1
    by_keys (some i) (some j) v (Some x) (Some y) k f g p = refl
    by_keys none oy v (Some x) y k f g p = absurd f
    by_keys (some i) oy v None y k f g p = absurd f
    by_keys none none v None (Some y) k f g p = absurd g
    by_keys none (some j) v None None k f g p = absurd g
    by_keys (some i) none v (Some x) (Some y) k f g p = absurd g
    by_keys (some i) (some j) v (Some x) None k f g p = absurd g

    nothing_said : (v : Option Json) (oob : Bool) (o : Option (List ℕ)) → as_arguments v ≡ none → (o >>= saying v oob) ≡ none
    nothing_said v oob none e = refl
    nothing_said v oob (some cs) e = rw e refl

    no_arguments : (ox oy v : Option Json) → as_arguments v ≡ none → as_call ox oy v ≡ none
    no_arguments none none v e = refl
    no_arguments (some i) none v e = nothing_said v false (as_string i) e
    no_arguments none (some j) v e = nothing_said v true (as_string j) e
    no_arguments (some i) (some j) v e = refl

    by-nodes : (ox oy v : Option Json) (x y k : Std.Option ℕ) → ValueFound message m w l ox x → ValueFound message m w l oy y → ValueFound message m w l v k
        → EnvelopeTold m w l (as_call ox oy v) (called_by w x y k)
    by-nodes ox oy v x y k f g h = go (proper_arguments w k) refl
      where
        go : (b : Bool) → proper_arguments w k ≡ b
            → EnvelopeTold m w l (as_call ox oy v) (cond b (call_by_one w x y k) Improper)
        go true t = by_keys ox oy v x y k f g (arguments-at v k h t)
        go false t = subst (λ (o : Option Envelope). EnvelopeTold m w l o Improper) (sym (no_arguments ox oy v (arguments-not v k h t))) refl

  module _ {x y k id : Std.Option ℕ} {b : Bool} (f : FindsValue message m w 0 (text "execute") x) (g : FindsValue message m w 0 (text "exec-oob") y)
      (h : FindsValue message m w 0 (text "arguments") k) (i : FindsValue message m w 0 (text "id") id) (n : NoOthers w 0 (x ∷ y ∷ k ∷ id ∷ []) b) where
    only_keys : {t : Bool} → b ≡ t → NoOtherKeys message m w 0 (text "execute" ∷ text "exec-oob" ∷ text "arguments" ∷ text "id" ∷ []) t
    only_keys e = only_these Message refl (f and g and h and i and nothing) n e

    pub other_key : b ≡ false → ReadsEnvelope m w Improper
    unfolding envelope
    other_key t = refused (λ a e fs l x k. rw (sym ((only_keys t).told fs (l - 1) x.3 k)) refl)

    -- the whole envelope
    pub envelope-read : {r : E.Envelope} → node w 0 0 ≡ object_node → b ≡ true → r ≡ called_by w x y k → ReadsEnvelope m w r
    unfolding envelope
    envelope-read q o p = rw p (record { told = λ j l z i. go j l z i })
      where
        go : (j : Json) (l : ℕ) → Holds message m w j l 0 → keys_once j ≡ true → EnvelopeTold m w (l - 1) (envelope j) (called_by w x y k)
        go (leaf a e v) l z i = absurd (scalar-no_object m a e v (sym z.0.has_kind ∙ q))
        go (arr a e js) l z i = absurd (omega (arith, z.0.has_kind, q))
        go (obj a e fs) l z i =
            let u = z.3 in
            rw (sym ((only_keys o).told fs (l - 1) u (and_left (apart same (keys_of fs)) (keys_once_f fs) i))) (by-nodes (l - 1) (value_at (text "execute") fs) (value_at (text "exec-oob") fs) (value_at (text "arguments") fs) x y k
            (f.told fs (l - 1) u) (g.told fs (l - 1) u) (h.told fs (l - 1) u))
