-- How many bytes a read or a readback asks for is the same by all settings.
use Rattle.std.proofs.Common.{◌≡◌, ℕ, true, false, refl}
use Rattle.settings.specs.declared.Settings.{Settings}
use Rattle.phases.specs.declared.ReadCommand.{ReadCommand}
use Rattle.phases.specs.declared.ReadCommand.TheVariants as Reads
use Rattle.phases.specs.declared.VerifyCommand.{VerifyCommand}
use Rattle.phases.specs.declared.VerifyCommand.TheVariants as Verifies
use Rattle.phases.specs.Waits.{read_tx, verify_tx}

pub read_same : (x y : Settings) (c : ReadCommand) → (read_tx x c).reply ≡ (read_tx y c).reply
unfolding read_tx
read_same x y (Reads.Read true a n) = refl
read_same x y (Reads.Read false a n) = refl
read_same x y Reads.Header = refl
read_same x y (Reads.Headers more) = refl
read_same x y (Reads.Table minor plen ptp) = refl
read_same x y (Reads.Before job) = refl
read_same x y (Reads.After job) = refl
read_same x y Reads.Id = refl
read_same x y Reads.IdAgain = refl
read_same x y Reads.Protected = refl

pub verify_same : (m n : ℕ) (c : VerifyCommand) → (verify_tx m c).reply ≡ (verify_tx n c).reply
unfolding verify_tx
verify_same m n (Verifies.Compare job to) = refl
verify_same m n (Verifies.Tell job mismatch) = refl
