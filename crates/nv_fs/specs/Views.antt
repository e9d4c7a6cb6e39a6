-- What calls see of the tables.
use Rattle.std.specs.Prelude.{ℕ, ◌-◌, Bool, List, [], map, drop, None, option_map, slice_index_or, vec_capacity}
use Rattle.std.specs.Global.{Vec}
use Rattle.nv_fs.specs.declared.disk.MemoryFile.{MemoryFile}
use Rattle.nv_fs.specs.declared.disk.FileSystem.TheInside.{Inside}
use Rattle.nv_fs.specs.States.{FileState, Inode}
use Rattle.nv_fs.specs.Reserved.{Disk, Reserved}

abbrev pub items_of : Vec ℕ → List ℕ
items_of v = v.items

abbrev pub capacity_of : Vec ℕ → ℕ
capacity_of v = vec_capacity v

abbrev pub inode_of : MemoryFile → Inode
inode_of f = record { name = option_map items_of f.name; bytes = f.bytes.bytes }

abbrev pub held_of : MemoryFile → List Bool
held_of f = f.bytes.held

-- the bytes of the file in a place of the table
abbrev pub bytes_in : List MemoryFile → ℕ → List ℕ
bytes_in files i = (slice_index_or (map inode_of files) i record { name = None; bytes = [] }).bytes

abbrev pub state_of : Inside → FileState
state_of k = record {
  descriptors = k.descriptors;
  opens = k.opens.items;
  files = map inode_of k.files.items;
  pipes = map items_of k.pipes.items;
  input = drop k.taken k.input.items;
  console = k.console.items;
  limit = k.limit;
}

abbrev pub reserved_of : Inside → Reserved
reserved_of k = record {
  opens = vec_capacity k.opens;
  files = vec_capacity k.files;
  pipes = vec_capacity k.pipes;
  name = vec_capacity k.name;
  console = k.console.most;
  input = vec_capacity k.input - k.taken;
  contents = map held_of k.files.items;
  buffers = map capacity_of k.pipes.items;
}

abbrev pub disk_of : Inside → Disk
disk_of k = record { state = state_of k; reserved = reserved_of k; gone = k.console.gone }
