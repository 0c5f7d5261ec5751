-- Reference, Viewer: what a record is called: the key before its value, as it is written, or what it is of the record before it.
use Rattle.std.specs.Prelude.{ℕ, zero, suc, ◌-◌, Bool, true, false, cond, not, ◌&&◌, List, [], ◌∷◌, eqb, leb, Option, Some, None}
use Prim.Native.Char.{code}
use Rattle.grammar.specs.Notation.{text}
use Rattle.grammar.specs.Lexis.{blank}
use Rattle.rules.specs.Types.{first_row}
use Rattle.rules.specs.Rows.{is_alternate}
use Rattle.walker.specs.declared.records.Record.{Record}
use Rattle.walker.specs.Seeing.{seen_at}
use Rattle.trees.specs.Backwards.{before}
use Rattle.trees.specs.Escapes.{shown}

-- bytes before a value, the nearest first
unfoldable pub skip_blanks : List ℕ → List ℕ
skip_blanks [] = []
skip_blanks (b ∷ l) = elim (blank b) [ true ↦ skip_blanks l | false ↦ b ∷ l ]

-- an even number of backslashes stands first
unfoldable pub even_slashes : List ℕ → Bool
even_slashes [] = true
even_slashes (b ∷ l) = elim (eqb b (code "\\")) [ true ↦ not (even_slashes l) | false ↦ true ]

-- a quote stands first that no backslash escapes
unfoldable pub quote_first : List ℕ → Bool
quote_first [] = false
quote_first (b ∷ l) = eqb b (code "\"") && even_slashes l

-- the key's bytes, from its last on: up to the quote that opens it, or all there are
unfoldable pub key_back : List ℕ → List ℕ → List ℕ
key_back k [] = k
key_back k (b ∷ l) = elim (quote_first (b ∷ l)) [ true ↦ k | false ↦ key_back (b ∷ k) l ]

-- behind a byte, blanks skipped
abbrev pub behind_byte : ℕ → List ℕ → Option (List ℕ)
behind_byte sought [] = None
behind_byte sought (b ∷ l) = cond (eqb b sought) (Some l) None

abbrev pub closed_key : Option (List ℕ) → Option (List ℕ)
closed_key None = None
closed_key (Some l) = Some (key_back [] l)

abbrev pub behind_colon : Option (List ℕ) → Option (List ℕ)
behind_colon None = None
behind_colon (Some l) = closed_key (behind_byte (code "\"") (skip_blanks l))

-- the key that stands before a value, if one does: a string and a colon
unfoldable pub key_before : List ℕ → Option (List ℕ)
key_before l = behind_colon (behind_byte (code ":") (skip_blanks l))

abbrev pub key_text : Option (List ℕ) → List ℕ
key_text None = text "-"
key_text (Some k) = shown k

-- a record of an alternate, no array of them
abbrev pub alternate_ref : List ℕ → ℕ → ℕ → Bool
alternate_ref T t f = eqb f 0 && leb first_row t && is_alternate T (t - first_row)

abbrev pub of_alternate : List ℕ → Option Record → Bool
of_alternate T (Some r) = alternate_ref T r.reference r.array
of_alternate T None = false

-- the record number n: the arguments, the alternative taken, a member by its key, or an element
unfoldable pub label_text : List ℕ → List ℕ → List ℕ → ℕ → ℕ → List ℕ
label_text T m ws zero start = text "arguments"
label_text T m ws (suc n) start = elim (of_alternate T (seen_at ws n)) [ true ↦ text "as" | false ↦ key_text (key_before (before m start)) ]
