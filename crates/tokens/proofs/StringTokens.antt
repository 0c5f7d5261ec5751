-- Strings as tokens: the machine enters one at its quote, and what its characters mean is what the machine gathers.
-- The grammar's derivation of the characters is a run of the machine.
use Prim.Native.Nat.{ℕ, ◌+◌, ◌<◌}
use mathlib.Core.Path.{◌≡◌, ◌∙◌}
use mathlib.Core.Bool.{true}
use mathlib.Core.List.{List, []}
use lib.ListN.{length, get_or, drop}
use Rattle.grammar.specs.Tree.{Fields}
use Rattle.grammar.specs.Serving.Machine.{Dialect, Stack, StringRole, StringRole.as_value, StringRole.as_key, end_string, scan}
use Rattle.grammar.specs.Serving.Machine.Control.{AtValue, AtKey, InString}
use Rattle.grammar.proofs.TokenRuns.{TokensComplete}
use Rattle.grammar.proofs.Complete.{skip-solid, chars-run}
use Rattle.grammar.proofs.SchemaDialect.{schema-tokens-complete}
use Rattle.grammar.proofs.MessageDialect.{message-tokens-complete}
use Rattle.strings.specs.declared.dialects.Dialect as Dialects
use Rattle.strings.specs.declared.dialects.Dialect.TheVariants.{Schema, Message}
use Rattle.strings.specs.Strings.{grammar_of, Means}
use Rattle.tokens.proofs.Scanning.{scan-to}

-- the laws of the dialect that was asked for
pub dialect_complete : (b : Dialects.Dialect) → TokensComplete (grammar_of b)
dialect_complete Schema = schema-tokens-complete
dialect_complete Message = message-tokens-complete

module _ {D : Dialect} (L : TokensComplete D) (lim : ℕ) (k : Stack) where
  module _ (s : List ℕ) (i : ℕ) (h : i < length s) (t : D.lexis.quote (get_or s i 0) ≡ true) where
    pub value-quote : scan D lim AtValue k i (drop i s) ≡ scan D lim (InString (as_value i) []) k (i + 1) (drop (i + 1) s)
    value-quote = scan-to D s lim AtValue k i h (skip-solid D L lim (L.quote_first _ t).solid _ _ _ ∙ simp t)

    pub key-quote : (o : ℕ) (fs : Fields) → scan D lim (AtKey o fs) k i (drop i s) ≡ scan D lim (InString (as_key o fs i) []) k (i + 1) (drop (i + 1) s)
    key-quote o fs = scan-to D s lim (AtKey o fs) k i h (skip-solid D L lim (L.quote_first _ t).solid _ _ _ ∙ simp t)

  pub string-run : {s cs : List ℕ} {a e : ℕ} → Means D s a e cs → (d : StringRole)
      → scan D lim (InString d []) k (a + 1) (drop (a + 1) s) ≡ scan D lim (end_string D d e cs) k e (drop e s)
  string-run m d = (chars-run D L lim m.chars d [] k).path
