-- What the threads in the queue of a place wait for: the places of mutexes, conditions, semaphores and ends, one kind
-- after the other.
use Rattle.std.specs.Prelude.{ℕ, ◌+◌, ◌-◌, ◌*◌, cond, ltb}
use Rattle.tables.specs.declared.places.Awaited.{Awaited}
use Rattle.tables.specs.declared.places.Awaited.TheVariants.{Mutex, Condition, Semaphore, End}

abbrev pub awaited_at : ℕ → ℕ → Awaited
awaited_at size p =
    cond (ltb p (4 + 2 * size)) (Mutex (record { 0 = p - 4 }))
    (cond (ltb p (4 + 4 * size)) (Condition (record { 0 = p - (4 + 2 * size) }))
    (cond (ltb p (4 + 5 * size)) (Semaphore (record { 0 = p - (4 + 4 * size) }))
    (End (record { 0 = p - (4 + 5 * size) }))))
