-- The first byte of a line of output: a user's digit, or a star
use Rattle.std.specs.Prelude.{ℕ, ◌+◌}
use Rattle.monitor_cmds.specs.declared.tag.Tag.{Tag}
use Rattle.monitor_cmds.specs.declared.tag.Tag.TheVariants.{User, Common}

-- the byte of a tag
abbrev pub tag_byte : Tag → ℕ
tag_byte (User user) = 48 + user
tag_byte Common = 42
