-- What is seen of a run, as the definitions see it.
use Rattle.jd_model.specs.Seen.{Seen as SeenValue, late, ended}
use Rattle.jd_start.specs.Starts.{start_data}
use Rattle.jd_replay.specs.declared.seen.Seen.{Seen}
use Rattle.jd_replay.specs.declared.seen.Seen.TheVariants.{Late, Ended}

abbrev pub seen_of : Seen → SeenValue
seen_of Late = late
seen_of (Ended end start) = ended end (start_data start)
