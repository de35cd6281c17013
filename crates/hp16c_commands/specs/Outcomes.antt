-- The numbers of the statuses.
use Rattle.std.specs.Prelude.{ℕ}
use Rattle.hp16c_commands.specs.declared.outcomes.Status.{Status}
use Rattle.hp16c_commands.specs.declared.outcomes.Status.TheVariants.{Done, Different, Unknown, Usage, BadInput, Limit, ReadFault, WriteFault, NoMemory, CertRefused, TooManyPaths}

abbrev pub number_of : Status → ℕ
number_of Done = 0
number_of Different = 1
number_of Unknown = 2
number_of Usage = 3
number_of BadInput = 4
number_of Limit = 5
number_of ReadFault = 6
number_of WriteFault = 7
number_of NoMemory = 8
number_of CertRefused = 9
number_of TooManyPaths = 10
