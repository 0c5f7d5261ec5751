-- Facts about the characters of message strings that both directions use: which code points stand for themselves, the escapes, the digits of `\u`.
-- By the tests of each definition.
use Prim.Native.Nat.{ℕ, ◌≤◌}
use Prim.Native.Char.{code}
use native.Mathlib.Omega.{arith}
use mathlib.Core.Logic.{◌≢◌}
use mathlib.Core.Path.{◌≡◌, refl}
use mathlib.Core.Bool.{Bool, true, false, cond, ◌||◌}
use mathlib.Core.Option.{Option, some}
use lib.Dec.{eqb}
use borrow.Author.Tests.{eqb-true}
use Rattle.grammar.specs.Notation.{within}
use Rattle.grammar.specs.MessageText.{unescaped, hex_digit, Escape}
use Rattle.grammar.specs.MessageText.Escape.{quotation_mark, reverse_solidus, solidus, backspace, form_feed, line_feed, carriage_return, tab}
use Rattle.grammar.specs.Serving.Machine.Message.{escape_of}
use Rattle.grammar.proofs.Booleans.{by, either, some_is, none-not-some, within-true, within-is, within-false, Outside, Outside.below, Outside.above}

pub record Unescaped (c : ℕ) : Type 0 where
  pub from : 0x20 ≤ c
  pub upto : c ≤ 0x10FFFF
  pub no_quote : c ≢ code "\""
  pub no_backslash : c ≢ code "\\"

pub unescaped-true : (c : ℕ) → unescaped c ≡ true → Unescaped c
unfolding unescaped
unescaped-true c =
    either (within 0x20 0x21 c || within 0x23 0x5B c) (within 0x5D 0x10FFFF c)
    (either (within 0x20 0x21 c) (within 0x23 0x5B c)
    (λ t. let h = within-true 0x20 0x21 c t in record { from = omega arith; upto = omega arith; no_quote = omega arith; no_backslash = omega arith })
    (λ t. let h = within-true 0x23 0x5B c t in record { from = omega arith; upto = omega arith; no_quote = omega arith; no_backslash = omega arith }))
    (λ t. let h = within-true 0x5D 0x10FFFF c t in record { from = omega arith; upto = omega arith; no_quote = omega arith; no_backslash = omega arith })

pub unescaped-is : (c : ℕ) → Unescaped c → unescaped c ≡ true
unfolding unescaped
unescaped-is c u = go (within 0x20 0x21 c) refl (within 0x23 0x5B c) refl
  where
    last : Outside 0x20 0x21 c → Outside 0x23 0x5B c → within 0x5D 0x10FFFF c ≡ true
    last (below h) o = absurd (omega (arith, u.from))
    last (above h) (below g) = absurd (omega (arith, u.no_quote))
    last (above h) (above g) = within-is 0x5D 0x10FFFF c (omega (arith, u.no_backslash)) u.upto

    go : (x : Bool) → within 0x20 0x21 c ≡ x → (y : Bool) → within 0x23 0x5B c ≡ y → (x || y || within 0x5D 0x10FFFF c) ≡ true
    go true e y f = refl
    go false e true f = refl
    go false e false f = last (within-false 0x20 0x21 c e) (within-false 0x23 0x5B c f)

-- the table of escapes
pub escape-is : {b c : ℕ} → Escape b c → escape_of b ≡ some c
unfolding escape_of
escape-is quotation_mark = refl
escape-is reverse_solidus = refl
escape-is solidus = refl
escape-is backspace = refl
escape-is form_feed = refl
escape-is line_feed = refl
escape-is carriage_return = refl
escape-is tab = refl

pub escape_no_u : {b c : ℕ} → Escape b c → eqb b (code "u") ≡ false
escape_no_u quotation_mark = refl
escape_no_u reverse_solidus = refl
escape_no_u solidus = refl
escape_no_u backspace = refl
escape_no_u form_feed = refl
escape_no_u line_feed = refl
escape_no_u carriage_return = refl
escape_no_u tab = refl

pub escape_of_lem : (b c : ℕ) → escape_of b ≡ some c → Escape b c
unfolding escape_of
escape_of_lem b c =
    test (code "\"") 0x22 quotation_mark (test (code "\\") 0x5C reverse_solidus (test (code "/") 0x2F solidus (test (code "b") 0x08 backspace
    (test (code "f") 0x0C form_feed (test (code "n") 0x0A line_feed (test (code "r") 0x0D carriage_return (test (code "t") 0x09 tab (λ e. none-not-some e))))))))
  where
    test : {y : Option ℕ} (a x : ℕ) → Escape a x → (y ≡ some c → Escape b c) → cond (eqb b a) (some x) y ≡ some c → Escape b c
    test a x h f = by (λ y. y ≡ some c → Escape b c) (eqb b a) (λ t e. let k : x ≡ c = some_is e in rw (eqb-true b a t, ← k) h) (λ _. f)

-- hexadecimal digits
pub hex-low : (b x : ℕ) → hex_digit b ≡ some x → x ≤ 15
unfolding hex_digit
hex-low b x =
    by (λ y. y ≡ some x → x ≤ 15) (within (code "0") (code "9") b) (λ t u. omega (arith, within-true (code "0") (code "9") b t, some_is u))
    (λ _. by (λ y. y ≡ some x → x ≤ 15) (within (code "A") (code "F") b) (λ t u. omega (arith, within-true (code "A") (code "F") b t, some_is u))
    (λ _. by (λ y. y ≡ some x → x ≤ 15) (within (code "a") (code "f") b) (λ t u. omega (arith, within-true (code "a") (code "f") b t, some_is u)) (λ _ u. none-not-some u)))
