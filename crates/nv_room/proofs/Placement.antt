-- The laws of where words stand and of the window.
pub use Rattle.nv_room.proofs.PlacementLaws.{table_size, table_is_small, place_inside, place_after, header_inside, place_stays, place_begun, words_apart, places_apart}
pub use Rattle.nv_room.proofs.PlacementLaws.{fits_later, place_early, place_last, place_next, slots_apart, slot_after, slot_inside, spot_inside, place_is_spot, second_apart}
