-- Small cards for the sessions and examples: each instruction as its word, by the paper's opcodes, and the image of a
-- list of them.
use Rattle.std.specs.Prelude.{ℕ, List, [], ◌∷◌, ◌≡◌, refl, ℤ, pos, negsuc}
use Rattle.instruction.specs.Word.{word_of}
use Rattle.writer.specs.Writing.{image_of, words_bytes}

-- an instruction whose operand is 0
abbrev plain : ℕ → ℕ
plain opcode = word_of opcode (pos 0)

abbrev pub halt : ℕ
halt = plain 0

abbrev pub loadc : ℤ → ℕ
loadc k = word_of 1 k

abbrev pub load : ℕ
load = plain 2

abbrev pub store : ℕ
store = plain 3

abbrev pub pop : ℕ
pop = plain 7

abbrev pub dup : ℕ
dup = plain 8

abbrev pub add : ℕ
add = plain 9

abbrev pub sub : ℕ
sub = plain 10

abbrev pub mul : ℕ
mul = plain 11

abbrev pub mark : ℕ
mark = plain 22

abbrev pub call : ℕ
call = plain 23

abbrev pub return : ℕ
return = plain 24

abbrev pub create : ℕ
create = plain 26

abbrev pub yield : ℕ
yield = plain 27

abbrev pub exit : ℕ
exit = plain 28

abbrev pub join : ℕ
join = plain 29

abbrev pub finalize : ℕ
finalize = plain 30

abbrev pub newmutex : ℕ
newmutex = plain 31

abbrev pub lock : ℕ
lock = plain 32

abbrev pub unlock : ℕ
unlock = plain 33

abbrev pub newcond : ℕ
newcond = plain 34

abbrev pub wait : ℕ
wait = plain 35

abbrev pub signal : ℕ
signal = plain 36

abbrev pub broadcast : ℕ
broadcast = plain 37

abbrev pub newsema : ℕ
newsema = plain 38

abbrev pub up : ℕ
up = plain 39

abbrev pub down : ℕ
down = plain 40

-- the image of a card with one global cell
abbrev pub card : List ℕ → List ℕ
card list = image_of 1 list

-- for example P10's
card_example :
    card (loadc (negsuc 0) ∷ load ∷ [])
    ≡ 0 ∷ 0 ∷ 0 ∷ 13 ∷ 1 ∷ 0 ∷ 1 ∷ 0 ∷ 2 ∷ 1 ∷ 255 ∷ 255 ∷ 255 ∷ 2 ∷ 0 ∷ 0 ∷ 0 ∷ []
unfolding words_bytes
card_example = refl
