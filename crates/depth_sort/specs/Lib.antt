-- What the areas hold while hits along a ray are sorted by depth. Definitions only. Assumes nothing.
pub mod SortRows
pub mod Order
