-- "Sessions on both sides of each limit": P1 to P14 of the paper as one table, each a card, the line that the runner
-- prints, and what the ended threads ended with. proofs/Sessions.antt computes a test over all rows, and a law turns
-- it into what each row says.
use Rattle.std.specs.Prelude.{ℕ, cond, List, [], ◌∷◌, ◌≡◌, eqb, ℤ, pos, negsuc, get_or}
use Prim.Native.String.{String}
use Rattle.opcodes.specs.Ascii.{bytes}
use Rattle.machine.specs.Calls.{Box, state_of}
use Rattle.machine.specs.Cards.{card, create, dup, join, load, loadc, lock, mul, newmutex, pop, return, unlock}
use Rattle.machine.specs.Lists.{Each, up_to}
use Rattle.machine.specs.Runner.{judged_part, runner_call, runner_line}
use Rattle.machine.specs.Size.{full}
use Rattle.machine.specs.Tables.{ended, place_of}

-- a thread that has ended, and what it ended with
pub record Result : Type 0 where
  pub thread : ℕ
  pub value : ℤ

abbrev pub with : ℕ → ℤ → Result
with t v = record { thread = t; value = v }

-- those of some threads that have ended
unfoldable pub ended_of : ℕ → Box → List ℕ → List Result
ended_of size box [] = []
ended_of size box (t ∷ rest) =
    cond (eqb (place_of (state_of size box).tables t) ended)
    (with t (get_or box.values t (pos 0)) ∷ ended_of size box rest)
    (ended_of size box rest)

-- all threads that have ended, in the order of their numbers
abbrev pub results_of : ℕ → Box → List Result
results_of size box = ended_of size box (up_to size)

-- a card's bytes, the line, and the results
pub record Session : Type 0 where
  pub image : List ℕ
  pub line : String
  pub results : List Result

abbrev pub sessions : List Session
sessions =
    -- P1 no bytes: 1 at 0
    record { image = []; line = "refused 1 0\n"; results = [] }
    -- P2 loadc 7, exit: runner prints `halted 2 7`
    ∷ record {
      image = 0 ∷ 0 ∷ 0 ∷ 13 ∷ 1 ∷ 0 ∷ 1 ∷ 0 ∷ 2 ∷ 1 ∷ 0 ∷ 0 ∷ 7 ∷ 28 ∷ 0 ∷ 0 ∷ 0 ∷ [];
      line = "halted 2 7\n";
      results = with 0 (pos 7) ∷ [];
    }
    -- P3 the same with version 2: 2 at 4
    ∷ record {
      image = 0 ∷ 0 ∷ 0 ∷ 13 ∷ 2 ∷ 0 ∷ 1 ∷ 0 ∷ 2 ∷ 1 ∷ 0 ∷ 0 ∷ 7 ∷ 28 ∷ 0 ∷ 0 ∷ 0 ∷ [];
      line = "refused 2 4\n";
      results = [];
    }
    -- P4 jump 2 as second of two: 5 at 13
    ∷ record {
      image = 0 ∷ 0 ∷ 0 ∷ 13 ∷ 1 ∷ 0 ∷ 1 ∷ 0 ∷ 2 ∷ 1 ∷ 0 ∷ 0 ∷ 7 ∷ 20 ∷ 0 ∷ 0 ∷ 2 ∷ [];
      line = "refused 5 13\n";
      results = [];
    }
    -- P5 opcode 41 first: 4 at 9
    ∷ record { image = 0 ∷ 0 ∷ 0 ∷ 9 ∷ 1 ∷ 0 ∷ 1 ∷ 0 ∷ 1 ∷ 41 ∷ 0 ∷ 0 ∷ 0 ∷ []; line = "refused 4 9\n"; results = [] }
    -- P6 newmutex, dup, lock, lock: stuck, 4 steps
    ∷ record { image = card (newmutex ∷ dup ∷ lock ∷ lock ∷ []); line = "stuck 4\n"; results = [] }
    -- P7 loadc 0, lock: 27 at PC 1
    ∷ record { image = card (loadc (pos 0) ∷ lock ∷ []); line = "fault 27 0 1 1\n"; results = [] }
    -- P8 newmutex, unlock: 28 at PC 1
    ∷ record { image = card (newmutex ∷ unlock ∷ []); line = "fault 28 0 1 1\n"; results = [] }
    -- P9 loadc 0, join: stuck, 2 steps
    ∷ record { image = card (loadc (pos 0) ∷ join ∷ []); line = "stuck 2\n"; results = [] }
    -- P10 loadc −1, load: 23 at PC 1
    ∷ record { image = card (loadc (negsuc 0) ∷ load ∷ []); line = "fault 23 0 1 1\n"; results = [] }
    -- P11 loadc 8388607, dup, mul: 24 at PC 2
    ∷ record { image = card (loadc (pos 8388607) ∷ dup ∷ mul ∷ []); line = "fault 24 0 2 2\n"; results = [] }
    -- P12 pop four times: 21 at PC 3
    ∷ record { image = card (pop ∷ pop ∷ pop ∷ pop ∷ []); line = "fault 21 0 3 3\n"; results = [] }
    -- P13 return alone: halted, 1 step, result 0
    ∷ record { image = card (return ∷ []); line = "halted 1 0\n"; results = with 0 (pos 0) ∷ [] }
    -- P14 loadc 3, loadc 5, create, return: halted, 5 steps, results 0 and 5
    ∷ record {
      image = card (loadc (pos 3) ∷ loadc (pos 5) ∷ create ∷ return ∷ []);
      line = "halted 5 0\n";
      results = with 0 (pos 0) ∷ with 1 (pos 5) ∷ [];
    }
    ∷ []

-- what a row says, in a box of any size: the runner prints the line, and these threads have ended, with these results
abbrev pub Gives : ℕ → Session → Type 0
Gives size s =
    (runner_line size s.image ≡ bytes s.line)
    × (results_of size (runner_call size (judged_part s.image)).box ≡ s.results)

-- all of them, in the paper's box
abbrev pub Hold : Type 0
Hold = Each (Gives full) sessions
