-- Stream allows nothing but what a run gives, so no list of bytes has two splits.
-- A run over the bytes of a rule is walked byte by byte: as long as they are viable the reader goes on, and its outermost bracket closes where the message ends and nowhere before.
use Prim.Native.Nat.{ℕ, suc, ◌≤◌, ◌<◌}
use Prim.Native.Char.{code}
use native.Mathlib.Omega.{arith}
use mathlib.Core.Path.{◌≡◌, refl, sym, ap, ◌∙◌, subst}
use mathlib.Core.Bool.{Bool, true, false}
use mathlib.Core.List.{List, [], ◌∷◌, ◌++◌, append_assoc, append-nil}
use lib.ListN.{length, take, set, length-set, length-append, replicate, length-replicate}
use lib.Dec.{eqb}
use Rattle.grammar.specs.Limits.{message_levels}
use Rattle.grammar.specs.Tree.{Json.arr, Json.obj, Items, Items.no_items, Items.item, Fields}
use Rattle.grammar.specs.Grammar.{Blanks, Value, Text}
use Rattle.grammar.specs.MessageText.{message_lexis}
use Rattle.grammar.specs.Starts.{Valid, Viable}
use Rattle.grammar.proofs.Booleans.{clash}
use Rattle.rules.specs.declared.MessageRefusal.{MessageRefusal}
use Rattle.rules.specs.declared.MessageRefusal.TheVariants.{NotText, TooDeep}
use Rattle.stream.specs.Stream as stream
use Rattle.stream.specs.Stream.{clears, opened, Begun, Belongs.first, Belongs.later, Refuses, Refuses.stray, Refuses.fault, Refuses.deep, Refuses.long}
use Rattle.stream.specs.Stream.{Output, Output.message, Output.refused, End, Stream, Skips}
use Rattle.stream.specs.Serving.Modes.{Mode, Turn, opened_mode, turn}
use Rattle.stream.specs.Serving.Feeding.{Standing, length_of, Outcome, outcome_of, Step, act, step, Run, handing, run}
use Rattle.stream.proofs.Messages.{Stands, Closes, Reached, length_snoc, stands-begun, closes-message, stands-turn, stuck_never, clearing_never, over-not, over-deeper, opens-stands, closed-viable, closed-whole, message-value}
use Rattle.stream.proofs.Bytes as byte-gives
use Rattle.stream.proofs.Bytes.{Gives}
use Rattle.stream.proofs.Runs.{At, At.at_gap, At.at_skip, At.at_message, stored}

-- Starts of texts
start-viable : {n : ℕ} (x y : List ℕ) → Viable message_lexis n (x ++ y) → Viable message_lexis n x
start-viable {n} x y v = (y ++ v.0, subst (λ (l : List ℕ). Valid message_lexis n l) (append_assoc x y v.0) v.1)

valid_viable : {n : ℕ} (x : List ℕ) → Valid message_lexis n x → Viable message_lexis n x
valid_viable {n} x v = ([], subst (λ (l : List ℕ). Valid message_lexis n l) (sym (append-nil x)) v)

message_valid : {m : List ℕ} → stream.Message m → Valid message_lexis message_levels m
message_valid w = let t = message-value w in (item t.0 no_items, t.1)

-- a message starts with its bracket
blanks_rise : {p q : ℕ} {l r : List ℕ} → Blanks message_lexis p l q r → p ≤ q
blanks_rise Blanks.none = omega arith
blanks_rise (Blanks.blank t w) = let h = blanks_rise w in omega arith
blanks_rise (Blanks.comment t c w) = clash t refl

no_blanks : {p q : ℕ} {l r : List ℕ} → Blanks message_lexis p l q r → q ≤ p → l ≡ r
no_blanks Blanks.none h = refl
no_blanks (Blanks.blank t w) h = absurd (omega (arith, blanks_rise w))
no_blanks (Blanks.comment t c w) h = clash t refl

message-opened : {m : List ℕ} → stream.Message m → opened m ≡ true
message-opened {m} (stream.Message.object t) = go t
  where
    go : {n e : ℕ} {fs : Fields} → Text message_lexis n m (item (obj 0 e fs) no_items) → opened m ≡ true
    go (Text.objects t w) = clash t refl
    go (Text.one_value t w (Value.object v) u) = ap opened (no_blanks w (omega arith))
message-opened {m} (stream.Message.array t) = go t
  where
    go : {n e : ℕ} {js : Items} → Text message_lexis n m (item (arr 0 e js) no_items) → opened m ≡ true
    go (Text.objects t w) = clash t refl
    go (Text.one_value t w (Value.array v) u) = ap opened (no_blanks w (omega arith))

-- Parts of a run: whatever follows, the bytes k are read to t and the buffer buf', and os is handed out
abbrev front : List Output → Run → Run
front os r = record { outputs = os ++ r.outputs; standing = r.standing; buffer = r.buffer }

record Leads (limit : ℕ) (s : Standing) (buf k : List ℕ) (os : List Output) (t : Standing) (buf' : List ℕ) : Type 0 where
  told : (l : List ℕ) → run limit s buf (k ++ l) ≡ front os (run limit t buf' l)
  same_length : length buf' ≡ length buf

stays : {limit : ℕ} {s : Standing} {buf : List ℕ} → Leads limit s buf [] [] s buf
stays = record { told = λ l. refl; same_length = refl }

leads-then : {limit : ℕ} {s t u : Standing} {buf buf' buf'' x y : List ℕ} {os ps : List Output} → Leads limit s buf x os t buf' → Leads limit t buf' y ps u buf'' → Leads limit s buf (x ++ y) (os ++ ps) u buf''
leads-then {limit} {s} {t} {u} {buf} {buf'} {buf''} {x} {y} {os} {ps} f g =
    record {
      told = λ l. ap (λ (k : List ℕ). run limit s buf k) (append_assoc x y l) ∙ f.told (y ++ l) ∙ ap (λ (r : Run). front os r) (g.told l) ∙ joined l;
      same_length = g.same_length ∙ f.same_length;
    }
  where
    joined : (l : List ℕ) → front os (front ps (run limit u buf'' l)) ≡ front (os ++ ps) (run limit u buf'' l)
    joined l =
        ap (λ (qs : List Output). record { outputs = qs; standing = (run limit u buf'' l).standing; buffer = (run limit u buf'' l).buffer })
        (sym (append_assoc os ps (run limit u buf'' l).outputs))

-- a byte, by what it gives
abbrev acted : ℕ → Step → List ℕ → Run
acted limit t l = handing t.said t.buffer (run limit t.standing t.buffer l)

module _ {limit : ℕ} {s : Standing} {b : ℕ} (buf : List ℕ) where
  goes : {o : Outcome} → Gives limit s b o → (l : List ℕ) → run limit s buf (b ∷ l) ≡ acted limit (act o (length_of s) buf b) l
  unfolding run step
  goes g l = ap (λ (o : Outcome). acted limit (act o (length_of s) buf b) l) g.told

  passed : {t : Standing} → Gives limit s b (Outcome.pass t) → Leads limit s buf (b ∷ []) [] t buf
  passed g = record { told = goes g; same_length = refl }

  kept : {md : Mode} {fs : List Bool} → Gives limit s b (Outcome.keep md fs) → Leads limit s buf (b ∷ []) [] (Standing.inside md fs (suc (length_of s))) (set buf (length_of s) b)
  kept g = record { told = goes g; same_length = length-set buf (length_of s) b }

  ended : Gives limit s b Outcome.ends → Leads limit s buf (b ∷ []) (message (take (suc (length_of s)) (set buf (length_of s) b)) ∷ []) Standing.between (set buf (length_of s) b)
  ended g = record { told = goes g; same_length = length-set buf (length_of s) b }

  refused_by_lem : {x : MessageRefusal} {t : Standing} → Gives limit s b (Outcome.refuse x t) → Leads limit s buf (b ∷ []) (refused x ∷ []) t buf
  refused_by_lem g = record { told = goes g; same_length = refl }

-- the bytes k after the bytes p of a message: it is still open after them, or it is closed by the last byte of q
data Walked (limit : ℕ) (s : Standing) (buf p k : List ℕ) : Type 0 where
  still : {t : Standing} {buf' : List ℕ} → Leads limit s buf k [] t buf' → At limit t buf' (End.inside (p ++ k)) → Walked limit s buf p k
  closed : {buf' : List ℕ} (q r : List ℕ) → k ≡ q ++ r → Closes (p ++ q) → Leads limit s buf q (message (p ++ q) ∷ []) Standing.between buf' → Walked limit s buf p k

-- a byte more in front
longer : {limit b : ℕ} {s t : Standing} {buf buf' p k : List ℕ} → Leads limit s buf (b ∷ []) [] t buf' → Walked limit t buf' (p ++ (b ∷ [])) k → Walked limit s buf p (b ∷ k)
longer {b = b} {p = p} {k = k} h (still g z) = still (leads-then h g) (rw (append_assoc p (b ∷ []) k) at z)
longer {limit} {b} {s} {buf = buf} {p = p} h (closed {buf' = buf''} q r w c g) =
    closed (b ∷ q) r (ap (λ (x : List ℕ). b ∷ x) w) (rw (append_assoc p (b ∷ []) q) at c)
    (subst (λ (x : List ℕ). Leads limit s buf (b ∷ q) (message x ∷ []) Standing.between buf'') (append_assoc p (b ∷ []) q) (leads-then h g))

abbrev Walks : ℕ → List ℕ → List ℕ → ℕ → List ℕ → Type 0
Walks limit k p n buf = (md : Mode) (fs : List Bool) → Stands md fs p → Walked limit (Standing.inside md fs n) buf p k

module _ {limit n b : ℕ} {buf p : List ℕ} {md : Mode} {fs : List Bool} (k : List ℕ) (e : take n buf ≡ p) (i : n < length buf) (v : Viable message_lexis message_levels (p ++ (b ∷ []))) where
  walk_turn : (t : Turn) → Reached t p b → Gives limit (Standing.inside md fs n) b (outcome_of t) → Walks limit k (p ++ (b ∷ [])) (suc n) (set buf n b) → Walked limit (Standing.inside md fs n) buf p (b ∷ k)
  walk_turn (Turn.to md' fs') z g ih = longer (kept buf g) (ih md' fs' z)
  walk_turn Turn.ended z g ih =
      closed (b ∷ []) k refl z
      (subst (λ (x : List ℕ). Leads limit (Standing.inside md fs n) buf (b ∷ []) (message x ∷ []) Standing.between (set buf n b)) (stored buf n b e i) (ended buf g))
  walk_turn Turn.stuck z g ih = absurd (stuck_never p b z message_levels v)
  walk_turn Turn.over z g ih = absurd (over-not p b z v)

snoc_append : (p : List ℕ) (b : ℕ) (k : List ℕ) → p ++ (b ∷ k) ≡ (p ++ (b ∷ [])) ++ k
snoc_append p b k = sym (append_assoc p (b ∷ []) k)

no_clearing : {md : Mode} {fs : List Bool} {p : List ℕ} (b : ℕ) → Stands md fs p → Viable message_lexis message_levels (p ++ (b ∷ [])) → clears b ≡ false
no_clearing b z v = go (clears b) (λ c. clearing_never b z c v)
  where
    go : (t : Bool) → (t ≡ true → ⊥) → t ≡ false
    go true h = absurd (h refl)
    go false h = refl

walk : {limit : ℕ} (k : List ℕ) {n : ℕ} {buf p : List ℕ} → take n buf ≡ p → length p ≡ n → limit ≤ length buf → length (p ++ k) ≤ limit → Viable message_lexis message_levels (p ++ k) → Walks limit k p n buf
walk [] {p = p} e f room h v md fs z = still stays (rw (append-nil p) (at_message z e f (omega (arith, length-append p []))))
walk {limit} (b ∷ k) {n} {buf} {p} e f room h v md fs z =
    let i : n < limit = omega (arith, length-append p (b ∷ k)) in
    let w = rw (snoc_append p b k) at v in
    let x = start-viable (p ++ (b ∷ [])) k w in
    walk_turn k e (omega arith) x (turn md fs b) (stands-turn b z) (byte-gives.turns b (no_clearing b z x) i)
    (walk k (stored buf n b e (omega arith)) (omega (arith, length_snoc p b)) (omega (arith, length-set buf n b)) (omega (arith, length-append p (b ∷ k), length-append (p ++ (b ∷ [])) k, length_snoc p b)) w)

-- from the first byte on
begins : {limit : ℕ} (m buf : List ℕ) → opened m ≡ true → limit ≤ length buf → length m ≤ limit → Viable message_lexis message_levels m → Walked limit Standing.between buf [] m
begins [] buf o room h v = clash o refl
begins {limit} (b ∷ m) buf o room h v =
    longer (kept buf (byte-gives.open_bracket b o (omega arith)))
    (walk m (stored buf 0 b refl (omega arith)) refl (omega (arith, length-set buf 0 b)) h v (opened_mode (eqb b (code "{"))) (eqb b (code "{") ∷ []) (opens-stands b o))

-- The parts of a stream
record Within (limit : ℕ) (buf m : List ℕ) : Type 0 where
  mode : Mode
  brackets : List Bool
  buffer : List ℕ
  leads : Leads limit Standing.between buf m [] (Standing.inside mode brackets (length m)) buffer
  stands : Stands mode brackets m
  kept_so_far : take (length m) buffer ≡ m

module _ {limit : ℕ} {buf : List ℕ} (room : limit ≤ length buf) where
  begun-leads : {m : List ℕ} → Begun m → length m ≤ limit → Within limit buf m
  begun-leads {m} z h = go (begins m buf z.starts room h z.viable)
    where
      at : {t : Standing} {buf' : List ℕ} → Leads limit Standing.between buf m [] t buf' → At limit t buf' (End.inside m) → Within limit buf m
      at f (at_message {md = md} {fs = fs} {n = n} {buf = buf'} y e k i) =
          record {
            mode = md;
            brackets = fs;
            buffer = buf';
            leads = subst (λ (n : ℕ). Leads limit Standing.between buf m [] (Standing.inside md fs n) buf') (sym k) f;
            stands = y;
            kept_so_far = subst (λ (n : ℕ). take n buf' ≡ m) (sym k) e;
          }

      go : Walked limit Standing.between buf [] m → Within limit buf m
      go (still f a) = at f a
      go (closed q r e c f) =
          absurd (z.unclosed (subst (λ (l : List ℕ). Valid message_lexis message_levels l) (sym e) (closed-viable r c (subst (λ (l : List ℕ). Viable message_lexis message_levels l) e z.viable))))

  whole-leads : {m : List ℕ} → stream.Message m → length m ≤ limit → (buf' : List ℕ) × Leads limit Standing.between buf m (message m ∷ []) Standing.between buf'
  whole-leads {m} w h = go (begins m buf (message-opened w) room h (valid_viable m (message_valid w)))
    where
      open_still : {t : Standing} {buf' : List ℕ} → At limit t buf' (End.inside m) → ⊥
      open_still (at_message y e k i) = (stands-begun y).unclosed (message_valid w)

      go : Walked limit Standing.between buf [] m → (buf' : List ℕ) × Leads limit Standing.between buf m (message m ∷ []) Standing.between buf'
      go (still f a) = absurd (open_still a)
      go (closed {buf' = buf'} q r e y f) =
          let k : q ≡ m = sym (append-nil q) ∙ ap (λ (l : List ℕ). q ++ l) (sym (closed-whole r y (subst (λ (l : List ℕ). stream.Message l) e w))) ∙ sym e in
          (buf', subst (λ (l : List ℕ). Leads limit Standing.between buf l (message l ∷ []) Standing.between buf') k f)

-- a refused byte, at an open message
module _ {limit b : ℕ} {md : Mode} {fs : List Bool} (m buf : List ℕ) where
  fault-leads : ((n : ℕ) → Viable message_lexis n (m ++ (b ∷ [])) → ⊥) → (t : Turn) → Reached t m b → Gives limit (Standing.inside md fs (length m)) b (outcome_of t)
      → Leads limit (Standing.inside md fs (length m)) buf (b ∷ []) (refused NotText ∷ []) Standing.skipping buf
  fault-leads v (Turn.to md' fs') z g = absurd (v message_levels (stands-begun z).viable)
  fault-leads v Turn.ended z g = absurd (v message_levels (valid_viable (m ++ (b ∷ [])) (message_valid (closes-message z))))
  fault-leads v Turn.stuck z g = refused_by_lem buf g
  fault-leads v Turn.over z g = absurd (v (suc message_levels) (over-deeper m b z))

  deep-leads : (Viable message_lexis message_levels (m ++ (b ∷ [])) → ⊥) → Viable message_lexis (suc message_levels) (m ++ (b ∷ [])) → (t : Turn) → Reached t m b
      → Gives limit (Standing.inside md fs (length m)) b (outcome_of t) → Leads limit (Standing.inside md fs (length m)) buf (b ∷ []) (refused TooDeep ∷ []) Standing.skipping buf
  deep-leads v w (Turn.to md' fs') z g = absurd (v (stands-begun z).viable)
  deep-leads v w Turn.ended z g = absurd (v (valid_viable (m ++ (b ∷ [])) (message_valid (closes-message z))))
  deep-leads v w Turn.stuck z g = absurd (stuck_never m b z (suc message_levels) w)
  deep-leads v w Turn.over z g = refused_by_lem buf g

refuses-leads : {limit b : ℕ} {buf m : List ℕ} {x : MessageRefusal} → limit ≤ length buf → Refuses limit m b x
    → (buf' : List ℕ) × Leads limit Standing.between buf (m ++ (b ∷ [])) (refused x ∷ []) Standing.skipping buf'
refuses-leads {b = b} {buf = buf} room (stray t u) = (buf, refused_by_lem buf (byte-gives.stray b t u))
refuses-leads {b = b} room (fault (first o) h v) = absurd (v message_levels (stands-begun (opens-stands b o)).viable)
refuses-leads {b = b} {m = m} room (fault (later z c) h v) =
    let y = begun-leads room z (omega arith) in
    (y.buffer, leads-then y.leads (fault-leads m y.buffer v (turn y.mode y.brackets b) (stands-turn b y.stands) (byte-gives.turns b c h)))
refuses-leads {b = b} room (deep (first o) h v w) = absurd (v (stands-begun (opens-stands b o)).viable)
refuses-leads {b = b} {m = m} room (deep (later z c) h v w) =
    let y = begun-leads room z (omega arith) in
    (y.buffer, leads-then y.leads (deep-leads m y.buffer v w (turn y.mode y.brackets b) (stands-turn b y.stands) (byte-gives.turns b c h)))
refuses-leads {b = b} {buf = buf} room (long (first o) h) = (buf, refused_by_lem buf (byte-gives.no_room b o (omega arith)))
refuses-leads {b = b} room (long (later z c) h) =
    let y = begun-leads room z (omega arith) in
    (y.buffer, leads-then y.leads (refused_by_lem y.buffer (byte-gives.long b c (omega arith))))

-- a stream is read to its end, and what it gives is handed out
record Reads (limit : ℕ) (s : Standing) (buf l : List ℕ) (os : List Output) (e : End) : Type 0 where
  standing : Standing
  buffer : List ℕ
  leads : Leads limit s buf l os standing buffer
  stands : At limit standing buffer e

reads_then : {limit : ℕ} {s t : Standing} {buf buf' x y : List ℕ} {os ps : List Output} {e : End} → Leads limit s buf x os t buf' → Reads limit t buf' y ps e → Reads limit s buf (x ++ y) (os ++ ps) e
reads_then f r = record { standing = r.standing; buffer = r.buffer; leads = leads-then f r.leads; stands = r.stands }

cut_as : {limit : ℕ} {s : Standing} {buf x y : List ℕ} {os : List Output} {e : End} → x ≡ y → Reads limit s buf y os e → Reads limit s buf x os e
cut_as {limit} {s} {buf} {os = os} {e = e} h r = subst (λ (l : List ℕ). Reads limit s buf l os e) (sym h) r

more_room : {limit : ℕ} {s t : Standing} {buf buf' x : List ℕ} {os : List Output} → limit ≤ length buf → Leads limit s buf x os t buf' → limit ≤ length buf'
more_room h f = omega (arith, f.same_length)

mutual
  stream_reads : {limit : ℕ} {l : List ℕ} {os : List Output} {e : End} (buf : List ℕ) → limit ≤ length buf → Stream limit l os e → Reads limit Standing.between buf l os e
  stream_reads buf h Stream.done = record { standing = Standing.between; buffer = buf; leads = stays; stands = at_gap }
  stream_reads buf h (Stream.gap {b = b} t d) = reads_then (passed buf (byte-gives.gap b t)) (stream_reads buf h d)
  stream_reads buf h (Stream.whole e w i d) = let z = whole-leads h w i in cut_as e (reads_then z.1 (stream_reads z.0 (more_room h z.1) d))
  stream_reads buf h (Stream.begun z i) =
      let y = begun-leads h z i in
      record { standing = Standing.inside y.mode y.brackets _; buffer = y.buffer; leads = y.leads; stands = at_message y.stands y.kept_so_far refl i }
  stream_reads buf h (Stream.cleared {m = m} {l = l} b e z i t d) =
      let y = begun-leads h z i in
      let f = leads-then y.leads (refused_by_lem y.buffer (byte-gives.cleared b t)) in
      cut_as (e ∙ snoc_append m b l) (reads_then f (stream_reads y.buffer (more_room h y.leads) d))
  stream_reads buf h (Stream.lost {m = m} {l = l} {b = b} e r d) = let z = refuses-leads h r in cut_as (e ∙ snoc_append m b l) (reads_then z.1 (skips_reads z.0 (more_room h z.1) d))

  skips_reads : {limit : ℕ} {l : List ℕ} {os : List Output} {e : End} (buf : List ℕ) → limit ≤ length buf → Skips limit l os e → Reads limit Standing.skipping buf l os e
  skips_reads buf h Skips.over = record { standing = Standing.skipping; buffer = buf; leads = stays; stands = at_skip }
  skips_reads buf h (Skips.skip {b = b} t d) = reads_then (passed buf (byte-gives.skip b t)) (skips_reads buf h d)
  skips_reads buf h (Skips.clear {b = b} t d) = reads_then (passed buf (byte-gives.clear b t)) (stream_reads buf h d)

-- what is read is determined
pub record Same (os ps : List Output) (e f : End) : Type 0 where
  pub outputs : os ≡ ps
  pub end : e ≡ f

at_only : {limit : ℕ} {s t : Standing} {buf buf' : List ℕ} {e f : End} → s ≡ t → buf ≡ buf' → At limit s buf e → At limit t buf' f → e ≡ f
at_only h g at_gap at_gap = refl
at_only h g at_skip at_skip = refl
at_only h g (at_message {n = n} {buf = buf} z e k i) (at_message {n = p} {buf = buf'} y d j l) =
    let q : n ≡ p = cc in ap (λ (m : List ℕ). End.inside m) (sym e ∙ ap (λ (x : List ℕ). take n x) g ∙ ap (λ (x : ℕ). take x buf') q ∙ d)
at_only h g at_gap at_skip = let z : ◌≡◌ {A = ℕ} 0 1 = cc in absurd (omega arith)
at_only h g at_gap (at_message y d j l) = let z : ◌≡◌ {A = ℕ} 0 1 = cc in absurd (omega arith)
at_only h g at_skip at_gap = let z : ◌≡◌ {A = ℕ} 0 1 = cc in absurd (omega arith)
at_only h g at_skip (at_message y d j l) = let z : ◌≡◌ {A = ℕ} 0 1 = cc in absurd (omega arith)
at_only h g (at_message z e k i) at_gap = let z : ◌≡◌ {A = ℕ} 0 1 = cc in absurd (omega arith)
at_only h g (at_message z e k i) at_skip = let z : ◌≡◌ {A = ℕ} 0 1 = cc in absurd (omega arith)

reads_only : {limit : ℕ} {s : Standing} {buf l : List ℕ} {os ps : List Output} {e f : End} → Reads limit s buf l os e → Reads limit s buf l ps f → Same os ps e f
unfolding run
reads_only {os = os} {ps = ps} r q =
    let h = sym (r.leads.told []) ∙ q.leads.told [] in
    record {
      outputs = sym (append-nil os) ∙ ap (λ (x : Run). x.outputs) h ∙ append-nil ps;
      end = at_only (ap (λ (x : Run). x.standing) h) (ap (λ (x : Run). x.buffer) h) r.stands q.stands;
    }

-- a buffer to read with
abbrev pub zeros : ℕ → List ℕ
zeros limit = replicate limit 0

pub zeros-room : (limit : ℕ) → limit ≤ length (zeros limit)
zeros-room limit = let e : length (zeros limit) ≡ limit = length-replicate limit 0 in omega arith

pub stream_only : {limit : ℕ} {l : List ℕ} {os ps : List Output} {e f : End} → Stream limit l os e → Stream limit l ps f → Same os ps e f
stream_only {limit} c d = reads_only (stream_reads (zeros limit) (zeros-room limit) c) (stream_reads (zeros limit) (zeros-room limit) d)
