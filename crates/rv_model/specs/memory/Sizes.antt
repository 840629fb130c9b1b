-- Sizes of pages and of memory. A page has 4,096 bytes (Privileged Architecture, section 4.3.1); the other numbers are choices of this
-- machine.
use Rattle.std.specs.Prelude.{ℕ, ◌*◌, ◌/◌, ◌^◌}
use Rattle.rv_model.specs.machine.Setup.{user_count}

-- bytes of a page, and of the frame that holds it
abbrev pub page_size : ℕ
page_size = 4096

-- greatest number of pages of a user
abbrev pub page_quota : ℕ
page_quota = 256

-- number of frames: enough for the greatest number of pages of all users
abbrev pub frame_count : ℕ
frame_count = user_count * page_quota

-- end of the address space: each mapped address is below it
abbrev pub address_end : ℕ
address_end = 2 ^ 48

-- number of pages below that end; each page number is below it
abbrev pub page_limit : ℕ
page_limit = address_end / page_size
