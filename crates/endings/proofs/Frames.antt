-- Laws of a thread's end. Assumes nothing.
use Prim.Native.Nat.{ℕ, ◌-◌}
use mathlib.Core.Path.{◌≡◌}
use mathlib.Core.Bool.{true, false}
use lib.IntN.{ℤ, negsuc}
use Rattle.machine.specs.Execution.{done, ending, fault, frame}
use Rattle.machine.specs.State.{State, cell, ends}
use Rattle.machine.specs.Tables.{owns_any}

-- the thread's first frame
pub frame_ended : (size n : ℕ) (s : State) (z : ℤ) → z ≡ negsuc 0 →
    frame size n s z ≡ ending size s (cell size s (s.regs.fp - 2))
unfolding frame
frame_ended size n s z e = rw e

-- the end of a thread that owns a mutex, and of one that doesn't
pub ending_owned : (size : ℕ) (s : State) (v : ℤ) → owns_any size s.tables s.regs.thread ≡ true →
    ending size s v ≡ fault 31
ending_owned size s v e = rw e

pub ending_free : (size : ℕ) (s : State) (v : ℤ) → owns_any size s.tables s.regs.thread ≡ false →
    ending size s v ≡ done (ends size s v)
ending_free size s v e = rw e
