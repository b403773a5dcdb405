-- The chosen examples of docs/SCOPE.md, as one table.
use Rattle.std.specs.Prelude.{◌≡◌, false, [], ◌∷◌, replicate, Result, Ok, Err}
use Rattle.sfdp.specs.declared.FlashParams.{FlashParams}
use Rattle.settings.specs.Limits.{defaults}
use Rattle.settings.specs.Ranges.{check_address_length}
use Rattle.erase_plan.specs.Span.{sectors_check}
use Rattle.erase_plan.proofs.Examples.{planned, erase, sectors}
use Rattle.commands.specs.declared.Answer.TheVariants.{Done}
use Rattle.commands.specs.Commands.{program}
use Rattle.commands.proofs.Examples.{started, Ran, replies, list, outcome, on_wire}

pub record Chosen : Type 0 where
  -- the seven of `test_erase_plan`: types of 4, 32 and 64 bytes by opcodes 1, 2 and 3; an entry is opcode, size, base
  pub one_small : planned 0 4 ≡ erase 1 4 0 ∷ []
  pub one_large : planned 0 64 ≡ erase 3 64 0 ∷ []
  pub three_large : planned 0 192 ≡ erase 3 64 0 ∷ erase 3 64 64 ∷ erase 3 64 128 ∷ []
  pub large_middle : planned 0 70 ≡ erase 3 64 0 ∷ erase 2 32 64 ∷ []
  pub large_small : planned 0 66 ≡ erase 3 64 0 ∷ erase 1 4 64 ∷ []
  pub small_large : planned 62 64 ≡ erase 1 4 60 ∷ erase 3 64 64 ∷ []
  pub small_large_small : planned 62 68 ≡ erase 1 4 60 ∷ erase 3 64 64 ∷ erase 1 4 128 ∷ []
  -- the whole list: 01 02 programmed at 000100, all bytes FF, ready at once; Done, 2 polls
  pub whole_run : (p : FlashParams)
      → Ran (program 0x100 (1 ∷ 2 ∷ []) false (started p)) replies list (outcome (started p) Done 2 (1 ∷ 2 ∷ replicate 254 0xFF))
  pub whole_list : on_wire list
      ≡ (0x0B ∷ 0x00 ∷ 0x01 ∷ 0x02 ∷ 0x00 ∷ [], 254)
      ∷ (0x06 ∷ [], 0)
      ∷ (0x20 ∷ 0x00 ∷ 0x01 ∷ 0x00 ∷ [], 0)
      ∷ (0x05 ∷ [], 1)
      ∷ (0x06 ∷ [], 0)
      ∷ (0x02 ∷ 0x00 ∷ 0x01 ∷ 0x00 ∷ 0x01 ∷ 0x02 ∷ [], 0)
      ∷ (0x05 ∷ [], 1)
      ∷ []
  -- the refusal at 4,096: 61,440 bytes with types of 4,096, 32,768 and 65,536
  pub refused_below : sectors_check sectors 4096 61440 ≡ Err 4096
  -- the two 16,777,216 cases, and length 0 at 0: 3 address bytes, no capacity
  pub all_of_24_bits : check_address_length defaults 0 16777216 ≡ Ok tt
  pub past_24_bits : check_address_length defaults 0 16777217 ≡ Err (record { last = 0x01000000 })
  pub none_at_0 : check_address_length defaults 0 0 ≡ Err (record { last = 0xFFFFFFFF })
