-- What the host is promised, for all eleven commands.
use mathlib.Core.Path.{ap, ◌∙◌}
use mathlib.Core.List.{List}
use Prim.Native.Nat.{ℕ}
use native.Mathlib.Omega.{arith}
use Rattle.commands.specs.declared.Answer.{Answer}
use Rattle.commands.specs.Script.{Script}
use Rattle.commands.specs.Host.{Tree, play}
use Rattle.flash.specs.declared.Stepped.{Stepped}
use Rattle.meaning.specs.Meaning.{Follows, Promised}
use Rattle.meaning.proofs.Follows.{follows}
use Rattle.meaning.proofs.Starting.{Begun, read_begun, legacy_begun, params_begun, erase_begun, sectors_begun, program_begun, data_begun, reset_begun, id_begun, busy_begun, protected_begun}

-- a start that gives what its script begins with is followed to the script's end
pub begun_follows : (x : Stepped) (room : List ℕ) (c : Script Answer) → Begun x room c → Follows x room c
begun_follows x room c b rs bytes l = follows x room b.given rs bytes (omega arith) ∙ ap (λ (t : Tree). play t rs) b.means

pub promised : Promised
promised =
    record {
      reads = λ s a n room idle. begun_follows _ room _ (read_begun s room idle a n);
      legacy_reads = λ s a n room idle. begun_follows _ room _ (legacy_begun s room idle a n);
      reads_params = λ s room idle. begun_follows _ room _ (params_begun s room idle);
      erases = λ s room idle. begun_follows _ room _ (erase_begun s room idle);
      erases_sectors = λ s a n room idle. begun_follows _ room _ (sectors_begun s room idle a n);
      programs = λ s a d v room idle. begun_follows _ _ _ (program_begun s d room idle a v);
      programs_data = λ s a d room idle. begun_follows _ _ _ (data_begun s d room idle a);
      resets = λ s room idle. begun_follows _ room _ (reset_begun s room idle);
      reads_id = λ s room idle. begun_follows _ room _ (id_begun s room idle);
      tells_busy = λ s room idle. begun_follows _ room _ (busy_begun s room idle);
      tells_protected = λ s room idle. begun_follows _ room _ (protected_begun s room idle);
    }
