-- `blanks::skip_blanks` meets its contract: the machine passes over the blanks and comments in every control that skips them.
-- The invariant says so up to `i`; what neither is a blank nor starts a comment is solid.
use Prim.Native.Nat.{ℕ}
use native.Mathlib.Omega.{arith}
use mathlib.Core.Path.{◌≡◌, refl, sym, ◌∙◌}
use mathlib.Core.Bool.{true}
use mathlib.Core.List.{List}
use Rattle.grammar.specs.Lexis.{blank}
use Rattle.grammar.specs.Serving.Machine.Schema.{schema}
use Rattle.grammar.proofs.Booleans.{clash}
use Rattle.strings.specs.declared.dialects.Dialect.{Dialect}
use Rattle.strings.specs.declared.dialects.Dialect.TheVariants.{Schema, Message}
use Rattle.strings.specs.Strings.{grammar_of}
use Rattle.tokens.specs.TokenParts.{CommentRuns}
use Rattle.tokens.proofs.BlankRuns.{passed-blank, passed-comment}
use Rattle.tokens.proofs.blanks.skip_blanks.Goals as goal

blanks : (d : Dialect) (b : ℕ) → (grammar_of d).lexis.blank b ≡ blank b
blanks Schema b = refl
blanks Message b = refl

-- only a schema has comments
comments : (d : Dialect) (b : ℕ) {s : List ℕ} {i e : ℕ} → (grammar_of d).lexis.comment b ≡ true → CommentRuns schema s i e → CommentRuns (grammar_of d) s i e
comments Schema b t w = w
comments Message b t w = clash t refl

pub loop-i-preserved-then-is_blank : goal.loop-i-preserved-then-is_blank
loop-i-preserved-then-is_blank c =
    passed-blank c.loop-i.invariant (omega arith) (blanks c.args.source.dialect _ ∙ sym c.is_blank.ensures ∙ c.if-is_blank.true)

pub loop-i-preserved : goal.loop-i-preserved
loop-i-preserved c =
    let t = sym c.opens_comment.ensures ∙ c.if-not-opens_comment.false in
    passed-comment c.loop-i.invariant (omega arith) (blanks c.args.source.dialect _ ∙ sym c.is_blank.ensures ∙ c.if-is_blank.false) t
    (comments c.args.source.dialect _ t c.comment_end-i.ensures)
