-- What was heard of one frame, and how many frames of each sort were.
use Rattle.std.specs.Prelude.{ℕ, ◌+◌, Some, None, Option}
use Rattle.std.specs.Option.{option_map}
use Rattle.line.specs.Calls.{said}
use Rattle.line.specs.Messages.{Msg, data_msg, error_msg}
use Rattle.listing.specs.declared.heard.Heard.{Heard}
use Rattle.listing.specs.declared.heard.Counts.{Counts}

-- The message, or none where the frame could not be read.
abbrev pub message_of : Heard → Option Msg
message_of h = option_map said h.0

-- One more of its sort.
abbrev pub counted : Counts → Option Msg → Counts
counted c None = record { messages = c.messages; errors = c.errors; unreadable = c.unreadable + 1 }
counted c (Some (data_msg node bytes)) = record { messages = c.messages + 1; errors = c.errors; unreadable = c.unreadable }
counted c (Some (error_msg code)) = record { messages = c.messages; errors = c.errors + 1; unreadable = c.unreadable }

abbrev pub none_yet : Counts
none_yet = record { messages = 0; errors = 0; unreadable = 0 }

abbrev pub total : Counts → ℕ
total c = c.messages + c.errors + c.unreadable
