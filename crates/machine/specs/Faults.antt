-- "Numbers given when it can't be done", "the table from 20 up": each fault and its number.
use Rattle.std.specs.Prelude.{ℕ, false, Result, MatchResult, ◌≡◌}
use Rattle.machine.specs.Registers.{is_fault}
use Rattle.machine.specs.declared.faults.Fault.{Fault}
use Rattle.machine.specs.declared.faults.Fault.TheVariants.{NoInstruction, StackUnderflow, StackOverflow, BadAddress, Arithmetic, BadTarget, BadFrame, NoMutex, NotOwner, BadCount, StillOwner, NoCondition, NoThread, NoSemaphore}
use Rattle.machine.specs.declared.faults.UnknownFault.{UnknownFault}

abbrev pub number_of : Fault → ℕ
-- "PC ≥ n"
number_of NoInstruction = 20
-- "no top, or no cell below it, where the instruction uses it; for call, under 3 cells"
number_of StackUnderflow = 21
-- "SP would pass 127"
number_of StackOverflow = 22
-- "cell address out of range"
number_of BadAddress = 23
-- "number beyond 32 bits, or zero divisor"
number_of Arithmetic = 24
-- "call or create target not 0 to n−1"
number_of BadTarget = 25
-- "return's frame wrong, or FP over SP"
number_of BadFrame = 26
-- "Keep 27 for a mutex number" (change request Three)
number_of NoMutex = 27
-- "unlock or wait by another than the owner"
number_of NotOwner = 28
-- "new of fewer than 1"; "a negative starting count" (change request Four)
number_of BadCount = 30
-- "exit, and a return that ends the thread, .. when the thread owns any mutex" (change request Two)
number_of StillOwner = 31
-- "32 condition" (change request Three)
number_of NoCondition = 32
-- "33 thread" (change request Three)
number_of NoThread = 33
-- "no such semaphore" (change request Four)
number_of NoSemaphore = 34

-- the fault with this number, or that the table has no such number
abbrev pub Names : ℕ → Result Fault UnknownFault → Type 0
Names number r = MatchResult r (λ fault. number_of fault ≡ number) (λ unknown. (unknown.0 ≡ number) × (is_fault number ≡ false))
