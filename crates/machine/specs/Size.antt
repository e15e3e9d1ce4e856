-- The sizes of a box, all by its number of threads: 32 in the paper's box. Equations give the paper's figures.
use Rattle.std.specs.Prelude.{ℕ, ◌+◌, ◌*◌, ◌≡◌, refl}

-- the shared cells, which come first in the store
abbrev pub shared : ℕ → ℕ
shared size = 128 * size

-- the whole store: the shared cells and a stack for each thread
abbrev pub store_size : ℕ → ℕ
store_size size = 256 * size

-- cell i of thread t's stack, by its place in the store
abbrev pub stack_at : ℕ → ℕ → ℕ → ℕ
stack_at size t i = 128 * (size + t) + i

-- how many mutexes, and how many conditions, can be made
abbrev pub mutex_limit : ℕ → ℕ
mutex_limit size = 2 * size

abbrev pub condition_limit : ℕ → ℕ
condition_limit size = 2 * size

-- how many semaphores (change request Four)
abbrev pub semaphore_limit : ℕ → ℕ
semaphore_limit size = size

-- the lent tables' numbers: see Tables.antt
abbrev pub tables_size : ℕ → ℕ
tables_size size = 7 * size

-- the lent values: what each thread ended with, and beside them the count of each semaphore
abbrev pub values_size : ℕ → ℕ
values_size size = 2 * size

-- the paper's box
abbrev pub full : ℕ
full = 32

-- "Store cells 0 to 4,095 are shared"
shared_full : shared full ≡ 4096
shared_full = refl

-- "store not 8,192 cells"
store_full : store_size full ≡ 8192
store_full = refl

-- "thread t's stack is the 128 cells from 4,096 + 128t"
first_stack : stack_at full 0 0 ≡ 4096
first_stack = refl

last_stack : stack_at full 31 127 ≡ 8191
last_stack = refl

-- "or −1 exactly if 64 were made"
mutexes_full : mutex_limit full ≡ 64
mutexes_full = refl

conditions_full : condition_limit full ≡ 64
conditions_full = refl

-- "or by −1 exactly if 32 were made" (change request Four)
semaphores_full : semaphore_limit full ≡ 32
semaphores_full = refl
