-- The relation between a user's translations and the user's page table
use Rattle.std.specs.Prelude.{◌≡◌, ℕ, ◌+◌, ◌*◌, ◌/◌, ◌%◌, ◌<◌, ◌≤◌, true, List, Some, slice_index_or}
use Rattle.rv_model.specs.declared.memory.Access.{Access}
use Rattle.rv_model.specs.declared.memory.Access.TheVariants as access
use Rattle.rv_model.specs.memory.Memory.{permits}
use Rattle.rv_model.specs.memory.Sizes.{page_size, frame_count}
use Rattle.rv_model.specs.machine.Setup.{user_count}
use Rattle.user_mem.specs.declared.entry.Entry.{Entry}
use Rattle.user_mem.specs.declared.translations.Translation.{Translation}
use Rattle.user_mem.specs.declared.translations.Translations.{Translations}
use Rattle.user_mem.specs.Pool.{table_at}
use Rattle.user_mem.specs.Table.{entry_at}

-- the number of slots; pages whose numbers are equal modulo this share a slot
abbrev pub place_count : ℕ
place_count = 256

-- n bytes from address a on are in one page that permits the access; in the frames they start at index `at`
pub record LiesAt (entries : List Entry) (access : Access) (a n at : ℕ) : Type 0 where
  pub entry : Entry
  pub there : entry_at entries (a / page_size) ≡ Some entry
  pub permitted : permits access entry.permissions ≡ true
  pub place : at ≡ page_size * entry.frame + a % page_size
  pub one_page : a % page_size + n ≤ page_size
  pub fits : at + n ≤ page_size * frame_count

-- a slot holds an aligned address; if its page belongs to the slot, all of the page may be accessed and starts at index
-- `start`
pub record IsTranslated (entries : List Entry) (access : Access) (place : ℕ) (page : Translation) : Type 0 where
  pub begins : page.first % page_size ≡ 0
  pub lies : page.first / page_size % place_count ≡ place → LiesAt entries access page.first page_size page.start

-- each slot satisfies this
abbrev pub AreTranslated : List Entry → Access → List Translation → Type 0
AreTranslated entries access pages = (i : ℕ) (d : Translation) → i < place_count → IsTranslated entries access i (slice_index_or pages i d)

-- so do the cached pages for each kind of access
pub record Translates (entries : List Entry) (translations : Translations) : Type 0 where
  pub fetch : AreTranslated entries access.Fetch translations.fetch
  pub load : AreTranslated entries access.Load translations.load
  pub store : AreTranslated entries access.Store translations.store
  pub monitor : AreTranslated entries access.Monitor translations.monitor

-- so do the translations of each user
abbrev pub AllTranslate : List (List Entry) → List Translations → Type 0
AllTranslate tables all = (u : ℕ) (d : Translations) → u < user_count → Translates (table_at tables u) (slice_index_or all u d)
