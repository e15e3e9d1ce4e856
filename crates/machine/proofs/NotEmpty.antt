-- None of the laws is empty: an accepted card, and lists of calls after which a mutex has an owner and a waiter, it is handed on, two
-- wait for a semaphore, and two for an end that delivers its result to both. Computed. Assumes nothing.
use mathlib.Core.Path.{refl}
use Rattle.opcodes.specs.Page.{page}
use Rattle.card.specs.Code.{first_bad, words_of}
use Rattle.card.specs.Image.{code_of, read_code, read_of}
use Rattle.writer.specs.Writing.{words_bytes}
use Rattle.machine.specs.Book.{event_of}
use Rattle.machine.specs.Calls.{run_call, set_up}
use Rattle.machine.specs.Played.{played}
use Rattle.machine.specs.Execution.{exec, fits, frame, needs, opening, owns, rooms, within}
use Rattle.machine.specs.Instructions.{instruction_of}
use Rattle.machine.specs.Laws.{NotEmpty}
use Rattle.machine.specs.Lists.{count, every, keep, some, to_end, up_to}
use Rattle.machine.specs.State.{delivered, finished, left, next, start}
use Rattle.machine.specs.Step.{carried, run}
use Rattle.machine.specs.Tables.{all_ready, any_live, first, owned, owns_any, queue, saved, sent, slice_of, tables_of}
use Rattle.machine.specs.WellFormed.{all_below, formed, well_formed}

pub not_empty : NotEmpty
unfolding
    played set_up run_call run carried exec needs rooms within fits frame opening owns event_of instruction_of start next left delivered finished tables_of slice_of queue any_live
    first sent owned owns_any saved all_ready keep count to_end up_to every some all_below formed well_formed read_of read_code code_of first_bad page words_of words_bytes
not_empty =
    record {
      accepted = refl;
      owner = refl;
      waiters = refl;
      released = refl;
      handed_on = refl;
      semaphore = refl;
      count = refl;
      in_line = refl;
      joined_first = refl;
      joined_second = refl;
      both_wait = refl;
      ended_with = refl;
      goes_on = refl;
      first_has = refl;
      second_has = refl;
      late = refl;
      late_has = refl;
    }
