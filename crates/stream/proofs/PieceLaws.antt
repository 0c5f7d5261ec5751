-- The loops over the bytes of a piece, over plain lists: what is given from here is what is given from the start of the call, with the bytes taken on top.
-- One law for each way through a loop; a byte that is kept goes to its index of the buffer, and the plain bytes after it likewise.
use Prim.Native.Nat.{ℕ, suc, ◌+◌, ◌-◌, ◌≤◌, ◌<◌}
use native.Mathlib.Omega.{arith}
use native.Mathlib.Numerals.{add-one}
use native.Mathlib.Nat.{add-zero}
use mathlib.Core.Path.{◌≡◌, refl, sym, ap, ◌∙◌}
use Prim.Native.Char.{code}
use mathlib.Core.Bool.{Bool, true, false, cond, ◌||◌}
use mathlib.Core.List.{List, [], ◌∷◌}
use lib.ListN.{length, drop, get_or, set, length-set}
use lib.Seq.{drop-cons, drop-length}
use lib.Dec.{ltb, eqb}
use Rattle.std.specs.Prelude.{Some, None, Ok, Err}
use borrow.Author.Tests.{ltb-true}
use Rattle.grammar.specs.Limits.{message_bytes}
use Rattle.grammar.specs.Lexis.{blank}
use Rattle.grammar.proofs.Booleans.{clash, min_right}
use Rattle.rules.specs.declared.MessageRefusal.{MessageRefusal}
use Rattle.rules.specs.declared.MessageRefusal.TheVariants.{TooLong, NotText}
use Rattle.stream.specs.declared.state.State.{State}
use Rattle.stream.specs.declared.state.State.TheVariants.{Between, Skipping, Inside}
use Rattle.stream.specs.declared.steps.Place.{Place}
use Rattle.stream.specs.Stream.{clears, opens, Said, limit_of}
use Rattle.stream.specs.Serving.Modes.{Mode, opened_mode, turn}
use Rattle.stream.specs.Serving.Feeding as feeding
use Rattle.stream.specs.Serving.Feeding.{Standing, length_of, byte, outcome_of, Call, call}
use Rattle.stream.specs.Serving.Contracts.{mode_of, open_of, standing_of, plain, laters, Runs, RunsStrings, Feeds}
use Rattle.stream.proofs.Bytes.{Gives}
use Rattle.stream.proofs.ByteLaws.{plain-keeps}
use Rattle.stream.proofs.CallLaws.{call-pass, call-keep, call_ends, call-refuse, laters-none, laters-add, laters-later}

-- Runs of kept bytes
pub runs_none : (md : Mode) (old piece : List ℕ) (from start limit : ℕ) → from ≤ length piece → start ≤ limit → Runs md old piece from start limit old from
runs_none md old piece from start limit h g =
    let e : from - from ≡ 0 = omega arith in
    record {
      told = λ fs.
          sym (ap (λ (n : ℕ). laters n (call limit (Standing.inside md fs (start + n)) old (drop from piece))) e
          ∙ ap (λ (n : ℕ). laters 0 (call limit (Standing.inside md fs n) old (drop from piece))) (add-zero start)
          ∙ laters-none _);
      rises = omega arith;
      taken = h;
      room = omega arith;
      same_length = refl;
    }

module _ {md : Mode} {old piece : List ℕ} {from start limit : ℕ} {buf : List ℕ} {i : ℕ} where
  -- one byte more is kept
  runs_on : Runs md old piece from start limit buf i → i < length piece → start + (i - from) < limit
      → ((fs : List Bool) → Gives limit (Standing.inside md fs (start + (i - from))) (get_or piece i 0) (feeding.Outcome.keep md fs))
      → Runs md old piece from start limit (set buf (start + (i - from)) (get_or piece i 0)) (i + 1)
  runs_on r h g k =
      let a = r.rises in
      let d : suc (i - from) ≡ i + 1 - from = omega arith in
      let m : suc (start + (i - from)) ≡ start + (i + 1 - from) = omega arith in
      record {
        told = λ fs.
            r.told fs
            ∙ ap (λ (l : List ℕ). laters (i - from) (call limit (Standing.inside md fs (start + (i - from))) buf l)) (drop-cons piece i 0 h)
            ∙ ap (λ (c : Call). laters (i - from) c) (call-keep buf (drop (suc i) piece) (k fs))
            ∙ laters-later (i - from) (i + 1 - from) _ d
            ∙ ap (λ (n : ℕ). laters (i + 1 - from) (call limit (Standing.inside md fs n) (set buf (start + (i - from)) (get_or piece i 0)) (drop (suc i) piece))) m
            ∙ ap (λ (n : ℕ). laters (i + 1 - from) (call limit (Standing.inside md fs (start + (i + 1 - from))) (set buf (start + (i - from)) (get_or piece i 0)) (drop n piece))) (sym (add-one i));
        rises = omega arith;
        taken = omega arith;
        room = omega arith;
        same_length = length-set buf (start + (i - from)) (get_or piece i 0) ∙ r.same_length;
      }

-- the loop over the plain bytes of a string: one more of them is kept
pub copying_starts : (old piece : List ℕ) (from start limit : ℕ) → from ≤ length piece → start ≤ limit → RunsStrings old piece from start limit old from
copying_starts old piece from start limit h g = record { runs = λ d. runs_none (Mode.in_string d) old piece from start limit h g }

pub copying_on : {old piece : List ℕ} {from start limit : ℕ} {buf : List ℕ} {i : ℕ} → RunsStrings old piece from start limit buf i → i < length piece → start + (i - from) < limit
    → plain (get_or piece i 0) ≡ true → RunsStrings old piece from start limit (set buf (start + (i - from)) (get_or piece i 0)) (i + 1)
copying_on {piece = piece} {i = i} z h f p = record { runs = λ d. runs_on (z.runs d) h f (λ fs. plain-keeps (get_or piece i 0) p f) }

-- The loop of a call
pub record Going (limit : ℕ) (old piece : List ℕ) (s : State) (i : ℕ) (t : State) (buf : List ℕ) : Type 0 where
  pub told : call limit (standing_of s) old piece ≡ laters i (call limit (standing_of t) buf (drop i piece))
  pub taken : i ≤ length piece
  pub same_length : length buf ≡ length old
  pub limited : limit ≡ limit_of (length old)

pub starts : {limit : ℕ} {old piece : List ℕ} {s : State} → limit ≡ limit_of (length old) → Going limit old piece s 0 s old
starts e = record { told = sym (laters-none _); taken = omega arith; same_length = refl; limited = e }

pub limit-room : {limit : ℕ} {old piece : List ℕ} {s : State} {i : ℕ} {t : State} {buf : List ℕ} → Going limit old piece s i t buf → limit ≤ length buf
limit-room {limit} {old} g = omega (arith, g.limited, g.same_length, min_right message_bytes (length old))

-- a byte that is stored has room
abbrev stores : feeding.Outcome → Bool
stores (feeding.Outcome.pass t) = false
stores (feeding.Outcome.keep md fs) = true
stores feeding.Outcome.ends = true
stores (feeding.Outcome.refuse x t) = false

stores-low : (limit : ℕ) (s : Standing) (b : ℕ) → stores (byte limit s b) ≡ true → length_of s < limit
unfolding byte
stores-low limit Standing.between b e = go (blank b || clears b) (opens b) (ltb 0 limit) refl e
  where
    go : (x y z : Bool) → ltb 0 limit ≡ z
        → stores
        (cond x (feeding.Outcome.pass Standing.between)
        (cond y (cond z (feeding.Outcome.keep (opened_mode (eqb b (code "{"))) (eqb b (code "{") ∷ [])) (feeding.Outcome.refuse TooLong Standing.skipping)) (feeding.Outcome.refuse NotText Standing.skipping)))
        ≡ true → 0 < limit
    go true y z h e = clash e refl
    go false true true h e = ltb-true 0 limit h
    go false true false h e = clash e refl
    go false false z h e = clash e refl
stores-low limit Standing.skipping b e = go (clears b) e
  where
    go : (x : Bool) → stores (cond x (feeding.Outcome.pass Standing.between) (feeding.Outcome.pass Standing.skipping)) ≡ true → 0 < limit
    go true e = clash e refl
    go false e = clash e refl
stores-low limit (Standing.inside md fs n) b e = go (clears b) (ltb n limit) refl e
  where
    go : (x z : Bool) → ltb n limit ≡ z
        → stores (cond x (feeding.Outcome.refuse NotText Standing.between) (cond z (outcome_of (turn md fs b)) (feeding.Outcome.refuse TooLong Standing.skipping))) ≡ true → n < limit
    go true z h e = clash e refl
    go false true h e = ltb-true n limit h
    go false false h e = clash e refl

-- a byte that is kept, as the next of a message or as its last, has room
pub keep_low : (limit b : ℕ) (s : Standing) {md : Mode} {fs : List Bool} → feeding.Outcome.keep md fs ≡ byte limit s b → length_of s < limit
keep_low limit b s d = stores-low limit s b (ap stores (sym d))

pub whole-low : (limit b : ℕ) (s : Standing) → feeding.Outcome.ends ≡ byte limit s b → length_of s < limit
whole-low limit b s d = stores-low limit s b (ap stores (sym d))

given : {limit b : ℕ} {s : Standing} {o : feeding.Outcome} → o ≡ byte limit s b → Gives limit s b o
given d = record { told = sym d }

module _ {limit : ℕ} {old piece : List ℕ} {s t : State} {i : ℕ} {buf : List ℕ} (g : Going limit old piece s i t buf) (h : i < length piece) where
  -- the call from here, at its first byte
  at_byte : call limit (standing_of s) old piece ≡ laters i (call limit (standing_of t) buf (get_or piece i 0 ∷ drop (suc i) piece))
  at_byte = g.told ∙ ap (λ (l : List ℕ). laters i (call limit (standing_of t) buf l)) (drop-cons piece i 0 h)

  passed : (u : State) → Gives limit (standing_of t) (get_or piece i 0) (feeding.Outcome.pass (standing_of u)) → Going limit old piece s (i + 1) u buf
  passed u k =
      let d : suc i ≡ i + 1 = omega arith in
      record {
        told =
            at_byte
            ∙ ap (λ (c : Call). laters i c) (call-pass buf (drop (suc i) piece) k)
            ∙ laters-later i (i + 1) _ d
            ∙ ap (λ (n : ℕ). laters (i + 1) (call limit (standing_of u) buf (drop n piece))) d;
        taken = omega arith;
        same_length = g.same_length;
        limited = g.limited;
      }

  pub to-between : feeding.Outcome.pass Standing.between ≡ byte limit (standing_of t) (get_or piece i 0) → Going limit old piece s (i + 1) Between buf
  to-between d = passed Between (given d)

  pub to-skipping : feeding.Outcome.pass Standing.skipping ≡ byte limit (standing_of t) (get_or piece i 0) → Going limit old piece s (i + 1) Skipping buf
  to-skipping d = passed Skipping (given d)

  -- a byte is kept, and then a run of them
  pub to_inside : {p : Place} {k e : ℕ} {new : List ℕ} → feeding.Outcome.keep (mode_of p.mode) (open_of p.brackets) ≡ byte limit (standing_of t) (get_or piece i 0) → k ≡ length_of (standing_of t)
      → Runs (mode_of p.mode) (set buf k (get_or piece i 0)) piece (i + 1) (k + 1) limit new e → Going limit old piece s e (Inside p (k + 1 + (e - (i + 1)))) new
  to_inside {p} {k} {e} {new} d f r =
      let a = r.rises in
      let j : suc i ≡ i + 1 = omega arith in
      let l : suc (length_of (standing_of t)) ≡ k + 1 = omega arith in
      let x : i + 1 + (e - (i + 1)) ≡ e = omega arith in
      record {
        told =
            at_byte
            ∙ ap (λ (c : Call). laters i c) (call-keep buf (drop (suc i) piece) (given d))
            ∙ laters-later i (i + 1) _ j
            ∙ ap (λ (n : ℕ). laters (i + 1) (call limit (Standing.inside (mode_of p.mode) (open_of p.brackets) (suc (length_of (standing_of t)))) (set buf (length_of (standing_of t)) (get_or piece i 0)) (drop n piece))) j
            ∙ ap (λ (n : ℕ). laters (i + 1) (call limit (Standing.inside (mode_of p.mode) (open_of p.brackets) n) (set buf (length_of (standing_of t)) (get_or piece i 0)) (drop (i + 1) piece))) l
            ∙ ap (λ (n : ℕ). laters (i + 1) (call limit (Standing.inside (mode_of p.mode) (open_of p.brackets) (k + 1)) (set buf n (get_or piece i 0)) (drop (i + 1) piece))) (sym f)
            ∙ ap (λ (c : Call). laters (i + 1) c) (r.told (open_of p.brackets))
            ∙ laters-add (i + 1) (e - (i + 1)) e _ x;
        taken = r.taken;
        same_length = r.same_length ∙ length-set buf k (get_or piece i 0) ∙ g.same_length;
        limited = g.limited;
      }

  -- something is handed out
  fed : {u : State} {o : Said} {new : List ℕ}
      → call limit (standing_of t) buf (get_or piece i 0 ∷ drop (suc i) piece) ≡ record { said = o; taken = 1; standing = standing_of u; buffer = new }
      → Feeds old piece s new (record { state = u; said = o; taken = i + 1 })
  fed {u} {o} {new} e =
      record { told = sym (ap (λ (n : ℕ). call n (standing_of s) old piece) g.limited) ∙ at_byte ∙ ap (λ (c : Call). laters i c) e }

  pub hands_message : {k : ℕ} → feeding.Outcome.ends ≡ byte limit (standing_of t) (get_or piece i 0) → k ≡ length_of (standing_of t)
      → Feeds old piece s (set buf k (get_or piece i 0)) (record { state = Between; said = Ok (Some (k + 1)); taken = i + 1 })
  hands_message {k} d f =
      let l : suc (length_of (standing_of t)) ≡ k + 1 = omega arith in
      fed
      (call_ends buf (drop (suc i) piece) (given d)
      ∙ ap (λ (p : ℕ). record { said = Ok (Some p); taken = 1; standing = Standing.between; buffer = set buf (length_of (standing_of t)) (get_or piece i 0) }) l
      ∙ ap (λ (p : ℕ). record { said = Ok (Some (k + 1)); taken = 1; standing = Standing.between; buffer = set buf p (get_or piece i 0) }) (sym f))

  pub hands_refusal : {x : MessageRefusal} → feeding.Outcome.refuse x Standing.skipping ≡ byte limit (standing_of t) (get_or piece i 0) → Feeds old piece s buf (record { state = Skipping; said = Err x; taken = i + 1 })
  hands_refusal d = fed (call-refuse buf (drop (suc i) piece) (given d))

  pub hands_cleared : feeding.Outcome.refuse NotText Standing.between ≡ byte limit (standing_of t) (get_or piece i 0) → Feeds old piece s buf (record { state = Between; said = Err NotText; taken = i + 1 })
  hands_cleared d = fed (call-refuse buf (drop (suc i) piece) (given d))

pub hands_nothing : {limit : ℕ} {old piece : List ℕ} {s t : State} {i : ℕ} {buf : List ℕ} → Going limit old piece s i t buf → length piece ≤ i
    → Feeds old piece s buf (record { state = t; said = Ok None; taken = i })
unfolding call
hands_nothing {limit} {old} {piece} {s} {t} {i} {buf} g h =
    let e : i ≡ length piece = omega (arith, g.taken) in
    let z : i + 0 ≡ i = omega arith in
    record {
      told =
          sym (ap (λ (n : ℕ). call n (standing_of s) old piece) g.limited)
          ∙ g.told
          ∙ ap (λ (l : List ℕ). laters i (call limit (standing_of t) buf l)) (ap (λ (n : ℕ). drop n piece) e ∙ drop-length piece)
          ∙ ap (λ (n : ℕ). record { said = Ok None; taken = n; standing = standing_of t; buffer = buf }) z;
    }
