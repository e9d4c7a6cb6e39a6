pub mod ChunkLaws
pub mod PoolLaws
