use Rattle.test_definitions.proofs.ListLaws.{chunk_is_part, element_is_sum, number_is_sum, split_is_split, split_is_unique}
use Rattle.test_definitions.proofs.list_laws.lists_by_index.Goals as goal

pub returns : goal.returns
returns c = record { chunk = chunk_is_part; number = number_is_sum; element = element_is_sum; split = split_is_split; unique = split_is_unique }
