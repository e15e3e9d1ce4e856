-- The opcode that a word names: the page, read the other way round.
use Rattle.std.specs.Prelude.{ℕ, cond, List, [], ◌∷◌, Option, Some, None, ◌≡◌, refl}
use Rattle.opcodes.specs.Ascii.{bytes, same}
use Rattle.opcodes.specs.Page.{Line, page}
use Rattle.words.specs.Words.{split}

-- the number of the line that has the name
unfoldable pub named_in : List Line → List ℕ → Option ℕ
named_in [] word = None
named_in (line ∷ rest) word = cond (same line.name word) (Some line.number) (named_in rest word)

abbrev pub opcode_named : List ℕ → Option ℕ
opcode_named word = named_in page word

-- the names of lines
unfoldable pub names_in : List Line → List (List ℕ)
names_in [] = []
names_in (line ∷ rest) = line.name ∷ names_in rest

-- "Opcodes: 0 halt, 1 loadc k, .. 37 broadcast" and "38 newsema, 39 up, 40 down": the page's names are these, in this
-- order
pub in_order : names_in page
    ≡ split 32
    (bytes
    "halt loadc load store loadr storer alloc pop dup add sub mul div mod neg eq neq less leq not jump jumpz mark call return new create yield exit join finalize newmutex lock unlock newcond wait signal broadcast newsema up down")
unfolding bytes names_in page split
in_order = refl
