use Rattle.test_definitions.proofs.GoldenMemories.{memories_exist}
use Rattle.test_definitions.proofs.memories.memories_exist.Goals as goal

pub returns : goal.returns
returns c = memories_exist
