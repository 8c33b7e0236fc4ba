-- What a claim got, in three numbers: the last one is 1 for a death.
use Rattle.stop_history.specs.declared.got.Got.{Got}
use Rattle.stop_history.specs.declared.got.Got.TheVariants as got
use Rattle.c_interface.specs.declared.got.CGot.{CGot}

abbrev pub got_numbers : Got → CGot
got_numbers (got.Stop number status) = record { number = number; status = status; death = 0 }
got_numbers (got.Ended number status) = record { number = number; status = status; death = 1 }
