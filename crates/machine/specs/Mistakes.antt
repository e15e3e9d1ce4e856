-- "Errors that look right": for each of the five a small card on which it would show, and what change requests Two,
-- Three, Four and Six tell apart. One table, of the same kind as the paper's sessions, in a box of three threads: none
-- of these cards makes more, and a small box computes sooner. Where an order is at stake, each thread ends with how
-- many came before it, which shared cell 0 counts. The proof is in proofs/Sessions.antt.
use Rattle.std.specs.Prelude.{ℕ, List, [], ◌∷◌, ◌++◌, pos, negsuc}
use Rattle.machine.specs.Cards.{add, broadcast, call, card, create, down, dup, exit, finalize, halt, join, load, loadc, lock, mark, newcond, newmutex, newsema, pop, return, signal, store, sub, unlock, up, wait, yield}
use Rattle.machine.specs.Lists.{Each}
use Rattle.machine.specs.Sessions.{Gives, Session, with}

abbrev pub few : ℕ
few = 3

-- a number is pushed, from 0 up
abbrev number : ℕ → ℕ
number k = loadc (pos k)

-- a thread is made that begins at an instruction
abbrev make : ℕ → List ℕ
make entry = number entry ∷ number 0 ∷ create ∷ []

-- how many came before is pushed, and one more is counted
abbrev counts : List ℕ
counts = number 0 ∷ load ∷ dup ∷ number 1 ∷ add ∷ number 0 ∷ store ∷ pop ∷ []

-- mutex 0 is locked, condition 0 awaited, and the mutex locked again, as a woken thread has to do itself
abbrev waits : List ℕ
waits = number 0 ∷ lock ∷ number 0 ∷ number 0 ∷ wait ∷ lock ∷ []

-- mutex 0 is unlocked, and the thread ends with what is on top
abbrev leaves : List ℕ
leaves = number 0 ∷ unlock ∷ exit ∷ []

abbrev pub mistakes : List Session
mistakes =
    -- 1 "Waking a condition's waiter straight past its lock: it must execute lock itself." Thread 1, from 22 on,
    -- waits for the condition; thread 0 locks the mutex, signals and yields, and comes first all the same.
    record {
      image =
          card
          (newmutex ∷ newcond ∷ make 22 ++ (yield ∷ number 0 ∷ lock ∷ number 0 ∷ signal ∷ yield ∷ counts) ++ leaves
          ++ waits ++ counts ++ leaves);
      line = "halted 39 0\n";
      results = with 0 (pos 0) ∷ with 1 (pos 1) ∷ [];
    }
    -- 2 "Freeing the mutex in unlock and letting the waiter try again: a third thread gets in first." Thread 1, from
    -- 21 on, waits for the mutex of thread 0, which unlocks it and at once locks it again: thread 1 comes first.
    ∷ record {
      image =
          card
          (newmutex ∷ lock ∷ make 21 ++ (yield ∷ number 0 ∷ unlock ∷ number 0 ∷ lock ∷ counts) ++ leaves
          ++ (number 0 ∷ lock ∷ counts) ++ leaves);
      line = "halted 34 1\n";
      results = with 0 (pos 1) ∷ with 1 (pos 0) ∷ [];
    }
    -- 3 "Signal remembered for a later wait." Nobody waits for the condition, so a wait after the signal waits for
    -- good.
    ∷ record {
      image = card (newmutex ∷ lock ∷ newcond ∷ signal ∷ number 0 ∷ number 0 ∷ wait ∷ []);
      line = "stuck 7\n";
      results = [];
    }
    -- 4 "Broadcast in reverse order." Threads 1 and 2, from 12 on, wait for the condition in this order.
    ∷ record {
      image =
          card (newmutex ∷ newcond ∷ make 12 ++ make 12 ++ (yield ∷ number 0 ∷ broadcast ∷ exit ∷ waits) ++ counts
          ++ leaves);
      line = "halted 46 2\n";
      results = with 0 (pos 2) ∷ with 1 (pos 0) ∷ with 2 (pos 1) ∷ [];
    }
    -- 5 "Giving -1 from create before testing the entry." All three threads are made, and the entry is no instruction
    -- of the card.
    ∷ record { image = card (make 0 ++ make 0 ++ make 9); line = "fault 25 0 8 8\n"; results = [] }
    -- "A measuring thread left by exit in the middle of its locked part" (change request Two): thread 1, from 5 on
    ∷ record {
      image = card (newmutex ∷ make 5 ++ (yield ∷ number 0 ∷ lock ∷ number 5 ∷ exit ∷ []));
      line = "fault 31 1 8 8\n";
      results = [];
    }
    -- .. which does not concern a return to a caller: the function from 6 on is called, and returns, in a locked part
    ∷ record {
      image = card (newmutex ∷ lock ∷ mark ∷ number 6 ∷ call ∷ halt ∷ return ∷ []);
      line = "halted 7 -\n";
      results = [];
    }
    -- "33 thread, where 27 stood" (change request Three): there are two mutexes, and no thread 1
    ∷ record { image = card (newmutex ∷ newmutex ∷ join ∷ []); line = "fault 33 0 2 2\n"; results = [] }
    -- "32 condition"; "wait looks at the condition before the mutex": there is neither
    ∷ record { image = card (number 0 ∷ number 0 ∷ wait ∷ []); line = "fault 32 0 2 2\n"; results = [] }
    -- "34 no such semaphore, beside 27" (change request Four): there are two mutexes
    ∷ record { image = card (newmutex ∷ newmutex ∷ up ∷ []); line = "fault 34 0 2 2\n"; results = [] }
    -- "30 a negative starting count, tested before the room": all three semaphores are made
    ∷ record {
      image =
          card (number 0 ∷ newsema ∷ number 0 ∷ newsema ∷ number 0 ∷ newsema ∷ loadc (negsuc 0) ∷ newsema ∷ []);
      line = "fault 30 0 7 7\n";
      results = [];
    }
    -- ".. the first waiter goes to the ready tail": thread 1, from 12 on, waits for the semaphore, and thread 2, from
    -- 14 on, is ready before the up
    ∷ record {
      image =
          card
          (number 0 ∷ newsema ∷ make 12 ++ (yield ∷ make 14) ++ (number 0 ∷ up ∷ exit ∷ number 0 ∷ down ∷ counts)
          ++ exit ∷ []);
      line = "halted 32 2\n";
      results = with 0 (pos 2) ∷ with 1 (pos 1) ∷ with 2 (pos 0) ∷ [];
    }
    -- "the ending thread writes its result to the top cell of each waiter" (change request Six): thread 1, from 9 on,
    -- joins thread 0 with 5 below, and ends with 5 − 7; thread 2, from 14 on, is late, and ends with the result itself
    ∷ record {
      image =
          card
          (make 9 ++ (yield ∷ make 14) ++ (number 7 ∷ exit ∷ number 5 ∷ number 0 ∷ join ∷ sub ∷ exit ∷ number 0 ∷ join
          ∷ exit ∷ []));
      line = "halted 17 7\n";
      results = with 0 (pos 7) ∷ with 1 (negsuc 1) ∷ with 2 (pos 7) ∷ [];
    }
    -- .. and an end that 31 refuses delivers nothing: thread 1, from 8 on, waits for thread 0, which owns the mutex
    ∷ record {
      image = card (newmutex ∷ lock ∷ make 8 ++ (yield ∷ number 7 ∷ exit ∷ number 0 ∷ join ∷ exit ∷ []));
      line = "fault 31 0 7 9\n";
      results = [];
    }
    -- the lectures' join and finalize, one after the other, leave the result on top
    ∷ record {
      image = card (make 6 ++ (join ∷ finalize ∷ exit ∷ number 4 ∷ exit ∷ []));
      line = "halted 8 4\n";
      results = with 0 (pos 4) ∷ with 1 (pos 4) ∷ [];
    }
    -- finalize alone "does nothing": it looks at no number, so -1 is neither 33 nor 29
    ∷ record {
      image = card (loadc (negsuc 0) ∷ finalize ∷ exit ∷ []);
      line = "halted 3 -1\n";
      results = with 0 (negsuc 0) ∷ [];
    }
    ∷ []

-- each of them, in the small box
abbrev pub Excluded : Type 0
Excluded = Each (Gives few) mistakes
