-- 01, "Text lines": the reply, and its field error.
use Rattle.std.specs.Prelude.{ℕ, Result}
use Rattle.event.specs.declared.reply.Done.{Done}
use Rattle.event.specs.declared.reply.Refused.{Refused}

-- what an event did, or its refusal
abbrev pub Reply : Type 0
Reply = Result Done Refused

-- error none; the errors that 01 knows are 0, 1, 2, 5 and 6
abbrev pub no_error : ℕ
no_error = 255
