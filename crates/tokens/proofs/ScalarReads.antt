-- Values without brackets: what the reader of a string, a number or a word answers is what the machine does from the value's first byte on.
-- That byte leads into the token, and from there the token's own laws apply.
use Prim.Native.Nat.{ℕ, ◌+◌, ◌-◌, ◌≤◌, ◌<◌}
use Prim.Native.Char.{code}
use native.Mathlib.Omega.{arith}
use mathlib.Core.Path.{◌≡◌, refl, ◌∙◌}
use mathlib.Core.Bool.{Bool, true, false}
use mathlib.Core.List.{List, [], ◌∷◌}
use mathlib.Core.Option.{some, none}
use lib.ListN.{length, get_or, take, drop}
use borrow.Author.Tests.{ne_eqb}
use Rattle.grammar.specs.Notation.{text}
use Rattle.grammar.specs.Tree.{Scalar, Scalar.null, Scalar.bool, Scalar.num, Scalar.str}
use Rattle.grammar.specs.Serving.Machine.{Dialect, Stack, StringRole.as_value, Next.to, step, scan}
use Rattle.grammar.specs.Serving.Machine.Control.{AtValue, InToken}
use Rattle.grammar.proofs.TokenRuns.{TokensComplete}
use Rattle.grammar.specs.Lexis.{blank}
use Rattle.grammar.specs.Serving.Machine.Schema as Schema
use Rattle.grammar.specs.Serving.Machine.Schema.{schema}
use Rattle.grammar.specs.Serving.Machine.Message.{message, token_start, token_step, number_step, NumberState, NumberState.begin, TokenState.word, TokenState.number}
use Rattle.grammar.proofs.Words.{Words}
use Rattle.grammar.proofs.SchemaDialect.{schema-tokens-complete}
use Rattle.grammar.proofs.SchemaDialect.{words as Schema-words}
use Rattle.grammar.proofs.MessageDialect.{message-tokens-complete}
use Rattle.grammar.proofs.MessageTokens.{words, begin_range, number-first}
use Rattle.strings.specs.declared.dialects.Dialect as Dialects
use Rattle.strings.specs.declared.dialects.Dialect.TheVariants as Asked
use Rattle.strings.specs.Strings.{grammar_of, is_plain, ReadsString, Means}
use Rattle.tokens.specs.Tokens.{scalar_node, ScalarAt, ScalarRuns, ScalarTold, ReadsScalar, Unbracketed, string_node, number_node}
use Rattle.tokens.specs.NodeKinds.{null_node, false_node, true_node}
use Rattle.tokens.specs.TokenParts.{KindTold, ReadsKind, begins_number}
use Rattle.tokens.specs.Numbers.{InNumber, NumberEnds, ReadsNumber}
use Rattle.std.specs.Prelude.{Result, Ok, Err}
use Rattle.strings.specs.Chars.{FaultAt}
use Rattle.strings.specs.declared.chars.Fault.{Fault}
use Rattle.strings.specs.declared.strings.StringEnd.{StringEnd}
use Rattle.tokens.specs.declared.literals.Number.{Number}
use Rattle.tokens.specs.declared.scalars.Scalar.{Scalar as ScalarEnd}
use Rattle.tokens.proofs.Scanning.{scan-to, scan_stuck, scan-end, scan_alike}
use Rattle.tokens.proofs.NumberSteps.{gathered_none}
use Rattle.tokens.proofs.NumberStates.{begins, begins-none}
use Rattle.tokens.proofs.WordRuns.{word-run, word-stops}
use Rattle.tokens.proofs.StringTokens.{value-quote, string-run}

-- strings
module _ {D : Dialect} (L : TokensComplete D) (s : List ℕ) (i : ℕ) (h : i < length s) (t : D.lexis.quote (get_or s i 0) ≡ true) where
  string-runs : {e : ℕ} {cs : List ℕ} → Means D s i e cs → ScalarRuns D s i e (str cs)
  string-runs m =
      record {
        on = omega (arith, m.wide);
        within = m.within;
        spelled = m;
        runs = λ lim k. value-quote L lim k s i h t ∙ string-run L lim k m (as_value i);
      }

  pub reads-string : {r : StringEnd} → ReadsString D s i (Ok r) → ReadsScalar D s i (Ok (record { kind = string_node (is_plain r.spelling); end = r.end }))
  reads-string w = let z = w.told in record { told = (str z.0, string-runs z.1, rw z.2 refl) }

  pub string-fault : {f : Fault} → ReadsString D s i (Err f) → ReadsScalar D s i (Err f)
  string-fault w = record { told = λ lim k. value-quote L lim k s i h t ∙ w.told (as_value i) lim k }

-- words
module _ (D : Dialect) (L : TokensComplete D) (word : ℕ → List ℕ → Scalar → D.TokenState) (W : Words D word) (s : List ℕ) (i : ℕ) (v : Scalar) (w : ℕ) (ws : List ℕ)
    (kind : ℕ) where
  word-told : ((lim : ℕ) (k : Stack) → scan D lim AtValue k i (drop i s) ≡ scan D lim (InToken i (word w ws v)) k (i + 1) (drop (i + 1) s))
      → ((e : ℕ) → ScalarAt D s i e v × (kind ≡ scalar_node s i e v)) → (r : Result ScalarEnd Fault) → KindTold s (i + 1) (w ∷ ws) kind r → ScalarTold D s i r
  word-told f m (Ok x) z =
      let n = m x.end in
      (v, record { on = omega (arith, z.1.0); within = z.1.1; spelled = n.0; runs = λ lim k. f lim k ∙ word-run D word W v lim i k L z.1.2 }, z.0 ∙ n.1)
  word-told f m (Err e) z = λ lim k. f lim k ∙ word-stops D word W v lim i k w ws z

  reads_word : {b : ℕ} {r : Result ScalarEnd Fault} → ((lim : ℕ) (k : Stack) → step D lim AtValue k i b ≡ to (InToken i (word w ws v)) k)
      → ((e : ℕ) → ScalarAt D s i e v × (kind ≡ scalar_node s i e v)) → i < length s → get_or s i 0 ≡ b → ReadsKind s (i + 1) (w ∷ ws) kind r → ReadsScalar D s i r
  reads_word {b} {r} f m h e x = record { told = word-told (λ lim k. scan-to D s lim AtValue k i h (rw e (f lim k))) m r x.told }

module _ {s : List ℕ} {i : ℕ} {r : Result ScalarEnd Fault} (h : i < length s) where
  pub true-read : (d : Dialects.Dialect) → get_or s i 0 ≡ code "t" → ReadsKind s (i + 1) (text "rue") true_node r → ReadsScalar (grammar_of d) s i r
  unfolding Schema.token_start token_start blank
  true-read Asked.Schema = reads_word schema schema-tokens-complete Schema.TokenState.word Schema-words s i (bool true) (code "r") (text "ue") true_node (λ lim k. refl) (λ e. (tt, refl)) h
  true-read Asked.Message = reads_word message message-tokens-complete word words s i (bool true) (code "r") (text "ue") true_node (λ lim k. refl) (λ e. (tt, refl)) h

  pub false-read : (d : Dialects.Dialect) → get_or s i 0 ≡ code "f" → ReadsKind s (i + 1) (text "alse") false_node r → ReadsScalar (grammar_of d) s i r
  unfolding Schema.token_start token_start blank
  false-read Asked.Schema = reads_word schema schema-tokens-complete Schema.TokenState.word Schema-words s i (bool false) (code "a") (text "lse") false_node (λ lim k. refl) (λ e. (tt, refl)) h
  false-read Asked.Message = reads_word message message-tokens-complete word words s i (bool false) (code "a") (text "lse") false_node (λ lim k. refl) (λ e. (tt, refl)) h

  pub null-read : get_or s i 0 ≡ code "n" → ReadsKind s (i + 1) (text "ull") null_node r → ReadsScalar message s i r
  unfolding token_start blank
  null-read = reads_word message message-tokens-complete word words s i null (code "u") (text "ll") null_node (λ lim k. refl) (λ e. (tt, refl)) h

-- numbers
module _ (s : List ℕ) (i : ℕ) (h : i < length s) {t : NumberState} (e : number_step begin (get_or s i 0) ≡ some t) where
  number-starts : (lim : ℕ) (k : Stack) → scan message lim AtValue k i (drop i s) ≡ scan message lim (InNumber s i begin i) k i (drop i s)
  unfolding token_start token_step
  number-starts lim k =
      let z = begin_range _ t e in
      let g = number-first (get_or s i 0) z.0 z.1 in
      let b = get_or s i 0 in
      rw (gathered_none s i)
      (scan_alike message s lim AtValue k i (InToken i (number begin [])) h
      (simp (g.solid.no_blank, ne_eqb b (code "\"") (omega arith), ne_eqb b (code "[") (omega arith), ne_eqb b (code "{") (omega arith), e)))

  number-runs : {q : ℕ} {j : Bool} → NumberEnds s begin i q j → ScalarRuns message s i q (num j (take (q - i) (drop i s)))
  number-runs w = record { on = w.moves refl; within = w.within (omega arith); spelled = refl; runs = λ lim k. number-starts lim k ∙ w.runs lim i k (omega arith) }

module _ {s : List ℕ} {i : ℕ} (h : i < length s) (b : begins_number (get_or s i 0) ≡ true) where
  pub reads-number : {r : Number} → ReadsNumber s i (Ok r) → ReadsScalar message s i (Ok (record { kind = number_node r.integer; end = r.end }))
  reads-number {r} w = record { told = (num r.integer (take (r.end - i) (drop i s)), number-runs s i h (begins (get_or s i 0) b).1 w.told, refl) }

  pub number-fault : {f : Fault} → ReadsNumber s i (Err f) → ReadsScalar message s i (Err f)
  number-fault w = record { told = λ lim k. number-starts s i h (begins (get_or s i 0) b).1 lim k ∙ w.told lim i k (omega arith) }

-- no value begins so
pub no_value : {D : Dialect} {s : List ℕ} {i : ℕ} → Unbracketed D s i → i < length s → D.lexis.quote (get_or s i 0) ≡ false → D.token_start (get_or s i 0) ≡ none
    → ReadsScalar D s i (FaultAt i)
no_value {D} {s} {i} u h q t =
    let b = u.solid h in
    record {
      told = λ lim k.
          scan_stuck D s lim AtValue k i h (simp (b.0, b.1, q, ne_eqb (get_or s i 0) (code "[") (u.no_array h), ne_eqb (get_or s i 0) (code "{") (u.no_object h), t));
    }

pub schema_no_value : {s : List ℕ} {i : ℕ} → Unbracketed schema s i → i < length s → schema.lexis.quote (get_or s i 0) ≡ false
    → (get_or s i 0 ≡ code "t" → ⊥) → (get_or s i 0 ≡ code "f" → ⊥) → ReadsScalar schema s i (FaultAt i)
unfolding Schema.token_start
schema_no_value u h q t f = no_value u h q (simp (ne_eqb _ _ t, ne_eqb _ _ f))

pub message_no_value : {s : List ℕ} {i : ℕ} → Unbracketed message s i → i < length s → message.lexis.quote (get_or s i 0) ≡ false → begins_number (get_or s i 0) ≡ false
    → (get_or s i 0 ≡ code "n" → ⊥) → (get_or s i 0 ≡ code "t" → ⊥) → (get_or s i 0 ≡ code "f" → ⊥) → ReadsScalar message s i (FaultAt i)
unfolding token_start
message_no_value {s} {i} u h q o n t f = no_value u h q (simp (begins-none (get_or s i 0) o, ne_eqb _ _ t, ne_eqb _ _ f, ne_eqb _ _ n))

-- the text ends
pub no_more : (D : Dialect) (s : List ℕ) (i : ℕ) → length s ≤ i → ReadsScalar D s i (FaultAt i)
no_more D s i h = record { told = λ lim k. scan-end D s lim AtValue k i h }
