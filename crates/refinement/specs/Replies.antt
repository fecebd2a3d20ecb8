-- What get and list answer, as the model's replies.
use Rattle.std.specs.Prelude.{Result, Ok, Err}
use Rattle.records.specs.declared.refusal.Refusal.{Refusal}
use Rattle.queries.specs.declared.get.Got.{Got}
use Rattle.listing.specs.declared.Listed.{Listed}
use Rattle.model.specs.Calls.{Reply, Tells, Lists, Buffers}

abbrev pub tells_of : Result Got Refusal → Reply
tells_of (Ok x) = Tells (Ok tt) x.status x.result
tells_of (Err r) = Tells (Err r) 0 0

-- list's answer, and what the lent buffers then hold
abbrev pub lists_of : Buffers → Result Listed Refusal → Reply
lists_of after (Ok x) = Lists (Ok tt) x.written x.left x.version after
lists_of after (Err r) = Lists (Err r) 0 0 0 after
